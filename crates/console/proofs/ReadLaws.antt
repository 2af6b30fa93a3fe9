-- Laws of what is read. Assumes nothing.
use Rattle.std.proofs.Common.{◌≡◌, ℕ, ◌+◌, ◌≤◌, List, ◌++◌, length, take, drop, ap, ◌∙◌, length-take-le}
use borrow.Rule.Slice.PartMut.{put_mid, post_of, take_put}
use lib.Seq.{take-add, take-append-le, drop_at}

-- what is put at a is after the first a bytes
pub take-put : (a k m : ℕ) (xs ys : List ℕ) → a ≤ length xs → m ≤ length ys → take (a + m) (put_mid a k xs ys) ≡ take a xs ++ take m ys
take-put a k m xs ys h g =
    take-add a m (put_mid a k xs ys) ∙ ap (λ l. l ++ take m (drop a (put_mid a k xs ys))) (take_put a k xs ys h)
    ∙ ap (λ l. take a xs ++ take m l) (drop_at (take a xs) (ys ++ post_of a k xs) a (length-take-le a xs h)) ∙ ap (λ l. take a xs ++ l) (take-append-le m ys (post_of a k xs) g)
