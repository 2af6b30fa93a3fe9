-- `text::Words`, as an iterator, meets its contract: the first word of what is left, and one word fewer is left.
use Rattle.std.proofs.Common.{ℕ, List, ◌∷◌, ◌≡◌, ◌<◌, length, sym, ap, subst, ◌∙◌, arith}
use Rattle.text.specs.HeldWords.{words_left}
use Rattle.text.proofs.WordsIterator.next.Goals as goal

fewer : {x : List ℕ} {ws : List (List ℕ)} (vs : List (List ℕ)) → ws ≡ x ∷ vs → length vs < length ws
fewer vs e = subst (λ l. length vs < length l) (sym e) (omega arith)

pub returns-clause-steps : goal.returns-clause-steps
returns-clause-steps c = ap words_left c.in-Some.is ∙ c.cut_word.ensures

pub returns-clause-goes : goal.returns-clause-goes
returns-clause-goes c = record {
  on = λ _. (tt, tt, fewer _ (ap words_left c.in-Some.is ∙ c.cut_word.ensures));
  keeps = tt;
  rests = λ _. tt;
}
