-- Laws of what is written. Assumes nothing.
use Rattle.std.proofs.Common.{◌≡◌, ℕ, ◌+◌, ◌-◌, List, ◌++◌, length, take, drop, sym, ap, ◌∙◌}
use Rattle.std.proofs.lemmas.List.{take_rest}
use lib.Seq.{take-add}

-- the first m bytes after the first n
pub take-more : (n m : ℕ) (xs : List ℕ) → take (n + m) xs ≡ take n xs ++ take m (take (length xs - n) (drop n xs))
take-more n m xs = take-add n m xs ∙ ap (λ l. take n xs ++ take m l) (sym (take_rest xs n))
