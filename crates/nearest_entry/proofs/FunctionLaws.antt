-- Laws of the answers of the search: in each case of the code, how large they are, and where they refuse. Assumes nothing.
use Prim.Native.Nat.{ℕ, ◌+◌, ◌≤◌}
use mathlib.Core.Path.{◌≡◌, refl, sym, ap}
use mathlib.Core.List.{List, ◌++◌}
use Rattle.std.specs.Prelude.{Some as some, None as none}
use native.Mathlib.Omega.{arith}
use lib.IntN.{ℤ}
use lib.ListN.{length, length-append}
use Rattle.refusals.specs.declared.Refusal.{Refusal}
use Rattle.refusals.specs.Refusals.{place}
use Rattle.text.specs.Text.{bytes, lines}
use Rattle.text_decimals.specs.Decimal.{decimal, integer}
use Rattle.text_decimals.proofs.DecimalLaws.{decimal-length}
use Rattle.numbers.proofs.SignedLaws.{number_fits}
use Rattle.machine.specs.Machine.{State, Code}
use Rattle.bound_theory.proofs.PlaceLaws.{bound-place}
use Rattle.text_decimals.proofs.IntegerLaws.{integer-length}
use Rattle.file_format.specs.Routine.{read_bound}
use Rattle.file_format.proofs.RowLaws.{read-passes}
use Rattle.file_format.proofs.PlaceLaws.{read-bound-place, confined, start_small}
use Rattle.file_reader.specs.declared.Routine.{Routine}
use Rattle.file_reader.specs.HeldRoutine.{Limited}
use Rattle.answers.specs.Answers.{reported, refused, memory_limit}
use Rattle.answers.proofs.AnswerLaws.{never, from-reading, place-from}
use Rattle.nearest_changes.specs.declared.Position.{Position}
use Rattle.nearest_changes.specs.declared.Position.TheVariants.{Accu, Entry, Field}
use Rattle.nearest_changes.specs.declared.Change.{Change}
use Rattle.nearest_changes.specs.Changes.{number_at}
use Rattle.nearest_changes.specs.Promises.{Direction, ChangeBy}
use Rattle.nearest_changes.proofs.PlaceLaws as places
use Rattle.nearest_changes.proofs.PlaceLaws.{entry-below, field_below}
use Rattle.cells.specs.Try.{done}
use Rattle.nearest_search.specs.Search.{Searched, found, refused_by, search}
use Rattle.nearest_search.proofs.Theorems.{found-moves, refused-alike}
use Rattle.machine_state.specs.HeldProgram.{sizes_of}
use Rattle.machine_state.proofs.ProgramLaws.{sizes-count}
use Rattle.nearest_search.proofs.SearchLaws.{whole-limited}
use Rattle.nearest_entry.specs.Answers.{name_of, line_of, change_text, of_searched, nearest_routine, nearest_answer}
use Rattle.nearest_entry.specs.Held.{search_in}
use Rattle.nearest_entry.proofs.StartLaws.{start-limited}

-- ---- what is printed

pub name-accu : (p : Position) → p ≡ Accu → name_of p ≡ bytes "ACCU"
unfolding name_of
name-accu p e = rw e refl

pub name-entry : (p : Position) (n : ℕ) → p ≡ Entry n → name_of p ≡ bytes "S" ++ decimal n
unfolding name_of
name-entry p n e = rw e refl

pub name-field : (p : Position) (k n : ℕ) → p ≡ Field k n → name_of p ≡ bytes "B" ++ decimal k ++ bytes "." ++ decimal n
unfolding name_of
name-field p k n e = rw e refl

field-name-length : (p : Position) (k n : ℕ) → p ≡ Field k n → length (name_of p) ≡ 1 + length (decimal k) + 1 + length (decimal n)
field-name-length p k n e = rw (name-field p k n e) (simp length-append (omega arith))

line-is : (x : Change) → line_of x ≡ name_of x.place ++ bytes " " ++ integer x.value ++ bytes "\n"
unfolding line_of
line-is x = refl

line-length : (x : Change) → length (line_of x) ≡ length (name_of x.place) + 1 + length (integer x.value) + 1
line-length x = rw (line-is x) (simp length-append (omega arith))

-- a place of a start within the limits has a short name
short-name : (s : State) → places.Limited s → (p : Position) (v : ℤ) → number_at p s ≡ done v → (1 ≤ length (name_of p)) × (length (name_of p) ≤ 6)
unfolding name_of
short-name s l Accu v e = (omega arith, omega arith)
short-name s l (Entry n) v e =
    let b = entry-below s n v e in
    let h = l.entries in
    let d = decimal-length 2 n (omega arith) (omega arith) in
    (omega arith, omega arith)
short-name s l (Field k n) v e =
    let b = field_below s k n v e in
    let h = l.blocks in
    let i = l.fields k in
    let d = decimal-length 1 k (omega arith) (omega arith) in
    let f = decimal-length 2 n (omega arith) (omega arith) in
    let g = field-name-length (Field k n) k n refl in
    (omega arith, omega arith)

short-line : (s : State) → places.Limited s → (n : ℕ) (d : Direction) (x : Change) → ChangeBy s n d x → (1 ≤ length (line_of x)) × (length (line_of x) ≤ 19)
short-line s l n d x c =
    let h = short-name s l x.place c.old c.holds in
    let i = integer-length x.value (number_fits x.value c.fits) in
    let e = line-length x in
    (omega arith, omega arith)

module _ (c : Code) (budget : ℕ) (s : State) (l : places.Limited s) where
  -- the change that is found
  pub found-length : (x : Change) → search c budget s ≡ found (some x) → (1 ≤ length (line_of x)) × (length (line_of x) ≤ 19)
  found-length x e = let m = found-moves c budget s x e in short-line s l m.1.amount m.1.direction x m.1.change

  -- what is reported
  searched-length : (bs : List ℕ) → of_searched (search c budget s) ≡ reported bs → (1 ≤ length bs) × (length bs ≤ 19)
  unfolding of_searched change_text
  searched-length bs e = go (search c budget s) refl e
    where
      go : (o : Searched) → search c budget s ≡ o → of_searched o ≡ reported bs → (1 ≤ length bs) × (length bs ≤ 19)
      go (found none) q e = let f : bytes "NONE\n" ≡ bs = cc in rw (← f) (omega arith, omega arith)
      go (found (some x)) q e = let f : line_of x ≡ bs = cc in rw (← f) (found-length x q)
      go (refused_by r) q e = never r bs e

pub says-change : (o : Searched) (x : Change) → o ≡ found (some x) → of_searched o ≡ reported (line_of x)
unfolding of_searched change_text
says-change o x e = rw e refl

pub says_none : (o : Searched) → o ≡ found none → of_searched o ≡ reported (bytes "NONE\n")
unfolding of_searched change_text
says_none o e = rw e refl

pub says-refused : (o : Searched) (r : Refusal) → o ≡ refused_by r → of_searched o ≡ refused r
unfolding of_searched
says-refused o r e = rw e refl

pub from-refused : (o : Searched) (r : Refusal) → of_searched o ≡ refused r → o ≡ refused_by r
unfolding of_searched
from-refused (found o) r e = never r (change_text o) (sym e)
from-refused (refused_by x) r e = let h : x ≡ r = cc in ap refused_by h

-- ---- a routine

pub held-length : (x : Routine) → Limited x → (y : Change) → search_in x ≡ found (some y) → length (line_of y) ≤ 19
held-length x l y e = (found-length _ _ _ (whole-limited (sizes_of x.code) x.blocks x.start l.formed l.program.sizes (omega (arith, sizes-count x.code l.program, l.program.blocks))) y e).1

-- ---- a text

module _ (text : List ℕ) (n : ℕ) where
  -- a report
  pub nearest-reported : (bs : List ℕ) → nearest_answer text n ≡ reported bs → (1 ≤ length bs) × (length bs ≤ 128) × (128 ≤ n)
  unfolding nearest_answer nearest_routine
  nearest-reported bs e =
      let a = from-reading nearest_routine (read_bound text) memory_limit n bs e in
      let x = a.routine in
      let p = read-passes text x a.reads in
      let l = searched-length x.code x.budget x.start (rw p.1 (start-limited p.0)) bs a.gives in
      (l.0, omega (arith, l.1), a.lent)

  -- a refusal
  pub nearest-place : (r : Refusal) → nearest_answer text n ≡ refused r → place r ≤ 62000
  unfolding nearest_answer nearest_routine of_searched
  nearest-place r =
      place-from 62000 nearest_routine (read_bound text) memory_limit n r
      (λ r e. let h = read-bound-place text r e in omega arith)
      (λ x e f.
      let (p, is, short) = read-passes text x e in
      let v = (refused-alike x.code x.budget x.start r).0 (from-refused (search x.code x.budget x.start) r f) in
      bound-place 62000 x.code (rw is (confined (lines text) p)) x.budget x.start (rw is (start_small (lines text) p)) r v)
