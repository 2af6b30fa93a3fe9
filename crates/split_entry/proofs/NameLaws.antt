-- A file that narrows another has the same names of cells, and so the same refusal of the cuts. Assumes nothing.
use Prim.Native.Nat.{ℕ, suc}
use mathlib.Core.Path.{◌≡◌, refl, sym, ap, ap₂, ◌∙◌}
use mathlib.Core.List.{List, ◌∷◌, ◌++◌, map}
use lib.ListN.{length}
use Rattle.cells.specs.declared.Cell.{Cell}
use Rattle.cells.specs.Order.{Pointwise, end, cons}
use Rattle.machine.specs.Machine.{State}
use Rattle.machine.specs.Order.{Cellwise}
use Rattle.machine.proofs.StateLaws.{height-law}
use Rattle.file_format.specs.Routine.{Routine, read_bound}
use Rattle.file_format.specs.Routine as readings
use Rattle.nearest_changes.specs.declared.Position.TheVariants.{Accu, Entry, Field}
use Rattle.nearest_changes.specs.Places.{from, fields_from, positions}
use Rattle.nearest_entry.specs.Answers.{name_of}
use Rattle.nearest_entry.proofs.Theorems.{named-in-order}
use Rattle.report_theory.specs.Refined.{Narrows}
use Rattle.split_cuts.specs.Cuts.{cuts_acceptance}
use Rattle.split_entry.specs.Answers.{cells_named, cuts_checked}

module _ {R : Cell → Cell → Type 0} where
  as_long : {xs ys : List Cell} → Pointwise R xs ys → length xs ≡ length ys
  as_long end = refl
  as_long (cons a p) = ap suc (as_long p)

  -- blocks with as many fields have the same places
  fields-alike : (k : ℕ) {xs ys : List (List Cell)} → Pointwise (Pointwise R) xs ys → fields_from k xs ≡ fields_from k ys
  unfolding fields_from
  fields-alike k end = refl
  fields-alike k (cons p q) = ap₂ (λ n ps. map (Field k) (from 0 n) ++ ps) (as_long p) (fields-alike (suc k) q)

  places-alike : {s t : State} → Cellwise R s t → positions s ≡ positions t
  unfolding positions
  places-alike h = ap₂ (λ n ps. Accu ∷ (map Entry (from 0 n) ++ ps)) (height-law h) (fields-alike 0 h.blocks)

module _ (narrower text : List ℕ) (y x : Routine) (reads : read_bound narrower ≡ readings.routine y) (reads' : read_bound text ≡ readings.routine x) (h : Narrows y x) where
  pub cuts-alike : (cuts : List ℕ) → cuts_checked narrower cuts ≡ cuts_checked text cuts
  unfolding cuts_checked cells_named
  cuts-alike cuts =
      ap (λ ns. cuts_acceptance ns cuts) (sym (named-in-order narrower y reads) ∙ ap (map name_of) (places-alike h.start) ∙ named-in-order text x reads')
