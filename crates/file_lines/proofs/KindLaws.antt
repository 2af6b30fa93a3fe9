-- The kind that a word names. Assumes nothing.
use Rattle.std.specs.Prelude.{None, Some}
use Prim.Native.Nat.{ℕ}
use mathlib.Core.Path.{◌≡◌, ap, ◌∙◌}
use mathlib.Core.Bool.{true, false}
use mathlib.Core.List.{List, []}
use lib.ListN.{get_or}
use Rattle.text.specs.Text.{place_among, find, among}
use Rattle.text.proofs.TextLaws.{is_found, among-place, among-find}
use Rattle.instructions.specs.Kinds.{kind_names}

pub name-unknown : (w : List ℕ) → place_among w kind_names ≡ None → among w kind_names ≡ false
name-unknown w q = among-place 0 w kind_names ∙ ap is_found q

pub name-known : (w : List ℕ) {k : ℕ} → place_among w kind_names ≡ Some k → among w kind_names ≡ true
name-known w q = among-place 0 w kind_names ∙ ap is_found q

-- the word that stands at a place is the word that was found there
pub word-found : (w : List ℕ) {k : ℕ} → place_among w kind_names ≡ Some k → get_or kind_names k [] ≡ w
word-found w {k} q =
    let f = among-find w kind_names (name-known w q) in
    let e : k ≡ find w kind_names = cc f.0 in
    ap (λ i. get_or kind_names i []) e ∙ f.1
