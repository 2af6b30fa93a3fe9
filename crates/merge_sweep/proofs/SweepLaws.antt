-- Laws of the pass over all addresses: where it begins, one address more, and where it ends. Assumes nothing.
use Rattle.std.specs.Prelude.{Err, Ok, Result, ⊤}
use Prim.Native.Nat.{ℕ, suc, ◌+◌, ◌*◌, ◌-◌, ◌<◌, ◌≤◌}
use mathlib.Core.Path.{◌≡◌, refl, sym, ap, ap₂, subst, ◌∙◌}
use mathlib.Core.Bool.{Bool, true, false, cond}
use mathlib.Core.List.{List}
use native.Mathlib.Omega.{arith}
use lib.Dec.{eqb}
use lib.ListN.{length, get_or, drop, replicate}
use lib.Seq.{get_or-take, get_or-drop}
use Rattle.refusals.specs.declared.Refusal.{Refusal}
use Rattle.cells.specs.declared.Cell.{Cell}
use Rattle.cells.specs.Cells.{unknown}
use Rattle.machine.specs.Machine.{Code, step, reblock}
use Rattle.machine_state.specs.declared.State as code
use Rattle.machine_state.specs.HeldState.{WellFormed, whole}
use Rattle.bound_theory.specs.Tree.{Report, Verdict, accepted}
use Rattle.bound_figures.specs.declared.Found.{Found}
use Rattle.bound_figures.specs.HeldFigures.{accepted_as, encode, Shows}
use Rattle.merge_theory.specs.Merge.{Slot, empty, join, Table, slot, nowhere, span, only, none, visit, sweep, merged}
use Rattle.merge_theory.specs.Ways.{sends}
use Rattle.merge_way.specs.Way.{Origins, departs, nowhence}
use Rattle.merge_way.specs.HeldBeside.{beside}
use Rattle.merge_origins.specs.HeldOrigins.{Goals, Keeps}
use Rattle.merge_origins.proofs.KeptLaws.{zeros}
use Rattle.merge_rows.specs.declared.Way.{Way}
use Rattle.merge_sweep.specs.declared.Pass.{Pass}
use Rattle.merge_rows.specs.HeldRows.{Numeric, Rows, arrival_of, part, slot_at, join_at, with, waiting}
use Rattle.merge_sweep.specs.HeldPass.{Empty, Spent, most, Ready, Agrees, Moved, stopped, moved}
use Rattle.merge_rows.proofs.RowLaws.{slot-empty}
use Rattle.merge_sweep.proofs.PassLaws.{arrived, same_test}
use Rattle.merge_rows.proofs.PartLaws.{comes-to}

-- the pass before the address of row j: what is left of it gives the verdict v, and leaves o kept
pub record Going (c : Code) (ns : List ℕ) (first n : ℕ) (v : Verdict) (o : Origins) (rs ks : List ℕ) (j : ℕ) (p : Pass) : Type 0 where
  pub ready : Ready ns first n j rs p
  pub within : j ≤ n
  pub tab : Table
  pub report : Report
  pub found : p.found ≡ accepted_as report
  pub agrees : Agrees ns first n j tab rs p.here p.way
  pub rest : sweep (step c unknown) (n - j) (first + j) tab report ≡ v
  pub goals : Goals ks
  pub kept : Origins
  pub keeps : Keeps first ks kept
  pub marks : beside (step c unknown) (n - j) (first + j) tab kept ≡ o

-- ---- an empty table

-- a row without a mark is empty
pub unmarked : (ns : List ℕ) (first : ℕ) (rs : List ℕ) (b : ℕ) → get_or rs (197 * b) 0 ≡ 0 → slot_at ns first rs b ≡ empty
unfolding slot_at
unmarked ns first rs b e =
    let at : 197 * b + 0 ≡ 197 * b = omega arith in
    slot-empty ns (first + b) (part (197 * b) (197 * b + 197) rs)
    (get_or-take (197 * b + 197 - 197 * b) (drop (197 * b) rs) 0 0 (omega arith) ∙ get_or-drop (197 * b) rs 0 0 ∙ ap (λ (i : ℕ). get_or rs i 0) at ∙ e)

pub all-empty : (ns : List ℕ) (first n m : ℕ) → Empty ns first n (replicate m 0)
all-empty ns first n m b h = unmarked ns first (replicate m 0) b (zeros m (197 * b))

-- ---- where it begins

-- the way from the start, and the pass with it
abbrev pub begun : code.State → List Cell → Pass
begun s bl = record {
  found = record { verdict = Ok tt; used = 0; cycles = 0; words = 0; depth = 0; path = 1 };
  here = true;
  way = record { state = s; blocks = bl; cycles = 0; words = 0 };
}

module _ (c : Code) (ns : List ℕ) (first l : ℕ) (rs : List ℕ) (s : code.State) (bl : List Cell) (from : c.first ≡ first) (count : length c.instructions ≡ l)
    (low : first ≤ s.at) (high : s.at ≤ first + l) (none-waits : Empty ns first (l + 1) rs) where
  abbrev w : Way
  w = (begun s bl).way

  abbrev j : ℕ
  j = s.at - first

  begun-slot : (b : ℕ) → b < l + 1 → waiting ns true w j b (slot_at ns first rs b) ≡ join_at (first + b) (arrival_of ns w) empty
  unfolding waiting with join_at
  begun-slot b h =
      let at : (arrival_of ns w).state.at ≡ s.at = comes-to ns w in
      ap (λ (x : Slot). cond (eqb b j) (join x (arrival_of ns w)) x) (none-waits b h)
      ∙ ap (λ (t : Bool). cond t (join empty (arrival_of ns w)) empty) (same_test b j (first + b) (arrival_of ns w).state.at (λ e. omega arith) (λ e. omega arith))

  begun-spent : (b : ℕ) → Spent (most j) (join_at (first + b) (arrival_of ns w) empty)
  unfolding join_at join arrival_of
  begun-spent b = go (eqb (first + b) (arrival_of ns w).state.at)
    where
      go : (t : Bool) → Spent (most j) (cond t (join empty (arrival_of ns w)) empty)
      go true = (omega arith, omega arith)
      go false = tt

  begun-agrees : Agrees ns first (l + 1) j (only (whole ns bl s)) rs true w
  unfolding only nowhere arrival_of slot
  begun-agrees b h k = arrived (arrival_of ns w) nowhere (first + b) ∙ sym (begun-slot b k)

  begun-found : (begun s bl).found ≡ accepted_as none
  unfolding accepted_as encode
  begun-found = refl

  begun-rest : sweep (step c unknown) (l + 1 - j) (first + j) (only (whole ns bl s)) none ≡ merged c (whole ns bl s)
  unfolding merged whole reblock
  begun-rest =
      let many : l + 1 - j ≡ suc (c.first + length c.instructions - s.at) = omega arith in
      let at : first + j ≡ s.at = omega arith in
      ap₂ (λ (n a : ℕ). sweep (step c unknown) n a (only (whole ns bl s)) none) many at

  -- what it leaves kept
  abbrev leaves : Origins
  leaves = beside (step c unknown) (span c (whole ns bl s)) s.at (only (whole ns bl s)) nowhence

  begun-marks : beside (step c unknown) (l + 1 - j) (first + j) (only (whole ns bl s)) nowhence ≡ leaves
  unfolding whole reblock
  begun-marks =
      let many : l + 1 - j ≡ suc (c.first + length c.instructions - s.at) = omega arith in
      let at : first + j ≡ s.at = omega arith in
      ap₂ (λ (n a : ℕ). beside (step c unknown) n a (only (whole ns bl s)) nowhence) many at

  pub begins : Rows rs → WellFormed s → length bl ≡ 128 → Numeric ns w → (ks : List ℕ) → Goals ks → Keeps first ks nowhence → Going c ns first (l + 1) (merged c (whole ns bl s)) leaves rs ks j (begun s bl)
  begins long formed fields numeric ks goals nothing = record {
    ready = record {
      rows = long;
      figures = record { used = omega arith; cycles = omega arith; words = omega arith; depth = omega arith };
      comes = (omega arith, (record { state = formed; fields = fields }, numeric));
      sums = λ b h k. rw (begun-slot b k) (begun-spent b);
    };
    within = omega arith;
    tab = only (whole ns bl s);
    report = none;
    found = begun-found;
    agrees = begun-agrees;
    rest = begun-rest;
    goals = goals;
    kept = nowhence;
    keeps = nothing;
    marks = begun-marks;
  }

-- ---- one address more

module _ {c : Code} {ns : List ℕ} {first n : ℕ} {v : Verdict} {o : Origins} {rs ks : List ℕ} {j : ℕ} {p : Pass} (g : Going c ns first n v o rs ks j p) (inside : j < n) (rs' : List ℕ) (r : Pass) where
  -- how the definition goes on there
  abbrev there : (Table → Report → Verdict) → Verdict
  there rest = visit (step c unknown) rest (first + j) g.tab g.report (slot (g.tab (first + j)))

  -- its table there, and what is kept
  abbrev onto : Table
  onto = sends (step c unknown) (first + j) (slot (g.tab (first + j))) g.tab

  abbrev left : Origins
  left = departs (step c unknown) (first + j) (slot (g.tab (first + j))) g.kept

  marks-ahead : beside (step c unknown) (n - (j + 1)) (suc (first + j)) onto left ≡ o
  unfolding beside
  marks-ahead =
      let m : n - j ≡ suc (n - (j + 1)) = omega arith in
      sym (ap (λ (i : ℕ). beside (step c unknown) i (first + j) g.tab g.kept) m) ∙ g.marks

  ahead : there (sweep (step c unknown) (n - (j + 1)) (suc (first + j))) ≡ v
  unfolding sweep
  ahead =
      let m : n - j ≡ suc (n - (j + 1)) = omega arith in
      sym (ap (λ (i : ℕ). sweep (step c unknown) i (first + j) g.tab g.report) m) ∙ g.rest

  never : {A : Type 0} (x : Refusal) → r.found.verdict ≡ Ok tt → r.found.verdict ≡ Err x → A
  never x e h = let z : ◌≡◌ {A = ℕ} 0 1 = cc in absurd (omega arith)

  pub goes_on : (ks' : List ℕ) → Ready ns first n (j + 1) rs' r → r.found.verdict ≡ Ok tt → Moved ns first n (j + 1) there onto rs' r → Goals ks' → Keeps first ks' left → Going c ns first n v o rs' ks' (j + 1) r
  goes_on ks' ready e (stopped x h k) goals keeps = never x e h
  goes_on ks' ready e (moved q f k a) goals keeps = record {
    ready = ready;
    within = omega arith;
    tab = onto;
    report = q;
    found = f;
    agrees = a;
    rest =
        let at : first + (j + 1) ≡ suc (first + j) = omega arith in
        ap (λ (i : ℕ). sweep (step c unknown) (n - (j + 1)) i onto q) at ∙ sym (k _) ∙ ahead;
    goals = goals;
    kept = left;
    keeps = keeps;
    marks =
        let at : first + (j + 1) ≡ suc (first + j) = omega arith in
        ap (λ (i : ℕ). beside (step c unknown) (n - (j + 1)) i onto left) at ∙ marks-ahead;
  }

  accepted-verdict : (q : Report) → r.found ≡ accepted_as q → r.found.verdict ≡ Ok tt
  unfolding accepted_as
  accepted-verdict q e = ap (λ (f : Found). f.verdict) e

  pub ends : (x : Refusal) → r.found.verdict ≡ Err x → Moved ns first n (j + 1) there onto rs' r → Shows r.found v
  ends y e (stopped x h k) = subst (Shows r.found) (sym (k _) ∙ ahead) h
  ends y e (moved q f k a) = never y (accepted-verdict q f) e

-- ---- where it ends

-- an answer that shows a refusal shows no report
pub not-accepted : {A : Type 0} (f : Found) (x : Refusal) (v : Verdict) (q : Report) → f.verdict ≡ Err x → Shows f v → v ≡ accepted q → A
unfolding accepted_as
not-accepted f x v q e s h =
    let k : f ≡ accepted_as q = subst (Shows f) h s in
    let z : ◌≡◌ {A = Result ⊤ Refusal} (Ok tt) (Err x) = sym (ap (λ (f : Found). f.verdict) k) ∙ e in
    let y : ◌≡◌ {A = ℕ} 0 1 = cc in
    absurd (omega arith)

pub finishes-kept : {c : Code} {ns : List ℕ} {first n : ℕ} {v : Verdict} {o : Origins} {rs ks : List ℕ} {j : ℕ} {p : Pass} → Going c ns first n v o rs ks j p → n ≤ j → Keeps first ks o
unfolding beside
finishes-kept {c} {first = first} {n = n} {ks = ks} {j = j} g h =
    let m : n - j ≡ 0 = omega arith in
    subst (Keeps first ks) (sym (ap (λ (i : ℕ). beside (step c unknown) i (first + j) g.tab g.kept) m) ∙ g.marks) g.keeps

pub finishes : {c : Code} {ns : List ℕ} {first n : ℕ} {v : Verdict} {o : Origins} {rs ks : List ℕ} {j : ℕ} {p : Pass} → Going c ns first n v o rs ks j p → n ≤ j → Shows p.found v
unfolding sweep
finishes {c} {first = first} {n = n} {j = j} {p = p} g h =
    let m : n - j ≡ 0 = omega arith in
    subst (Shows p.found) (sym (ap (λ (i : ℕ). sweep (step c unknown) i (first + j) g.tab g.report) m) ∙ g.rest) g.found
