-- Laws of the address of a row: what has come to it decides how the definition goes on, and no other row changes. Assumes nothing.
use Prim.Native.Nat.{ℕ, ◌+◌, ◌*◌, ◌-◌, ◌<◌, ◌≤◌}
use mathlib.Core.Path.{◌≡◌, sym, ap, subst, ◌∙◌}
use mathlib.Core.List.{List}
use native.Mathlib.Omega.{arith}
use lib.ListN.{length}
use borrow.Rule.Slice.PartMut.{put_mid, same_len_mid}
use Rattle.refusals.specs.declared.Refusal.TheVariants.{NoMeeting}
use Rattle.cells.specs.Try.{Try}
use Rattle.machine.specs.Machine.{State, Next, jump}
use Rattle.machine_state.specs.HeldState.{whole}
use Rattle.bound_theory.specs.Tree.{Report, Verdict, refused}
use Rattle.bound_figures.specs.declared.Found.{Found}
use Rattle.merge_theory.specs.Merge.{Slot, Table, slot, carry, visit}
use Rattle.merge_theory.specs.Ways.{sent, sends}
use Rattle.merge_way.specs.Way.{Origins, marked, departs}
use Rattle.merge_rows.specs.declared.Way.{Way}
use Rattle.merge_sweep.specs.declared.Mark.{Mark}
use Rattle.merge_sweep.specs.declared.Mark.TheVariants.{Nothing, Unlike, Is}
use Rattle.merge_sweep.specs.declared.Pass.{Pass}
use Rattle.merge_rows.specs.HeldRows.{Rows, arrival_of, part, slot_in, slot_at, with, waiting}
use Rattle.merge_sweep.specs.HeldPass.{came_as, Spent, most, Figures, Ready, Agrees, Moved, stopped, moved, spent_of}
use Rattle.merge_sweep.proofs.PassLaws.{waiting-here, waiting-other}
use Rattle.merge_rows.proofs.PartLaws.{row-length, slot-other}
use Rattle.merge_sweep.proofs.CarryLaws.{Under, moved-onto, whole-at}

pub figures-more : (j : ℕ) (f : Found) → Figures j f → Figures (j + 1) f
figures-more j f i = record { used = omega (arith, i.used); cycles = omega (arith, i.cycles); words = omega (arith, i.words); depth = i.depth }

-- the same way of going on, said in another way
pub moved_as : {ns : List ℕ} {first n j : ℕ} {v v' : (Table → Report → Verdict) → Verdict} {onto onto' : Table} {rs : List ℕ} {r : Pass}
    → ((rest : Table → Report → Verdict) → v' rest ≡ v rest) → onto ≡ onto' → Moved ns first n j v onto rs r → Moved ns first n j v' onto' rs r
moved_as e g (stopped x h k) = stopped x h (λ rest. e rest ∙ k rest)
moved_as e g (moved q h k a) = moved-onto g q h (λ rest. e rest ∙ k rest) a

-- row k comes back as r
module _ (ns : List ℕ) (first n k : ℕ) (rs r : List ℕ) (p : Pass) (few : k < 1025) (ready : Ready ns first n k rs p) (l : length r ≡ length (part (197 * k) (197 * k + 197) rs)) where
  abbrev rs' : List ℕ
  rs' = put_mid (197 * k) (197 * k + 197 - 197 * k) rs r

  pub rows_back : Rows rs'
  rows_back = same_len_mid (197 * k) (197 * k + 197 - 197 * k) rs r l ∙ ready.rows

  others : (b : ℕ) → (b ≡ k → ⊥) → slot_at ns first rs' b ≡ slot_at ns first rs b
  others b d = slot-other ns first k rs r few ready.rows (l ∙ row-length k rs few ready.rows ∙ omega arith) b d

  apart : (b : ℕ) → k < b → b ≡ k → ⊥
  apart b l q = omega arith

  -- a row after that of k
  later : (b : ℕ) → k < b → waiting ns p.here p.way k b (slot_at ns first rs b) ≡ slot_at ns first rs' b
  later b l = waiting-other ns p.here p.way k b (slot_at ns first rs b) (apart b l) ∙ sym (others b (apart b l))

  pub back-under : Under ns first n k k rs'
  back-under b l m = subst (Spent (most k)) (later b l) (ready.sums b (omega arith) m)

  pub back-agree : (tab : Table) → Agrees ns first n k tab rs p.here p.way → (b : ℕ) → k < b → b < n → slot (tab (first + b)) ≡ slot_at ns first rs' b
  back-agree tab a b l m = a b (omega arith) m ∙ later b l

  -- what has come to the address of row k, where the code found it to be m and v
  module _ (m : Mark) (v : Way) (came : came_as ns m v ≡ with ns p.here p.way (slot_in ns (first + k) (part (197 * k) (197 * k + 197) rs))) (inside : k < n) where
    waits : waiting ns p.here p.way k k (slot_at ns first rs k) ≡ came_as ns m v
    unfolding slot_at
    waits = waiting-here ns p.here p.way k (slot_at ns first rs k) ∙ sym came

    pub here-slot : (tab : Table) → Agrees ns first n k tab rs p.here p.way → slot (tab (first + k)) ≡ came_as ns m v
    here-slot tab a = a k (omega arith) inside ∙ waits

    pub here-spent : Spent (most k) (came_as ns m v)
    here-spent = subst (Spent (most k)) waits (ready.sums k (omega arith) inside)

-- ---- how the definition goes on

pub visit-nothing : (act : State → Try Next) (rest : Table → Report → Verdict) (a : ℕ) (tab : Table) (q : Report) (ns : List ℕ) (m : Mark) (v : Way) (s : Slot) → s ≡ came_as ns m v → m ≡ Nothing
    → visit act rest a tab q s ≡ rest tab q
unfolding visit came_as
visit-nothing act rest a tab q ns m v s e g = ap (visit act rest a tab q) (e ∙ ap (λ (x : Mark). came_as ns x v) g)

pub visit-unlike : (act : State → Try Next) (rest : Table → Report → Verdict) (a : ℕ) (tab : Table) (q : Report) (ns : List ℕ) (m : Mark) (v : Way) (s : Slot) → s ≡ came_as ns m v → m ≡ Unlike
    → visit act rest a tab q s ≡ refused (NoMeeting a)
unfolding visit came_as
visit-unlike act rest a tab q ns m v s e g = ap (visit act rest a tab q) (e ∙ ap (λ (x : Mark). came_as ns x v) g)

jump-same : (a : ℕ) (s : State) → s.at ≡ a → jump a s ≡ s
unfolding jump
jump-same a s e = ap (λ (i : ℕ). record { at = i; accu = s.accu; stack = s.stack; blocks = s.blocks }) (sym e)

pub visit-way : (act : State → Try Next) (rest : Table → Report → Verdict) (a : ℕ) (tab : Table) (q : Report) (ns : List ℕ) (m : Mark) (v : Way) (s : Slot) → s ≡ came_as ns m v → m ≡ Is
    → v.state.at ≡ a → visit act rest a tab q s ≡ carry rest a tab q (whole ns v.blocks v.state) (spent_of v) (act (whole ns v.blocks v.state))
unfolding visit came_as arrival_of
visit-way act rest a tab q ns m v s e g h =
    ap (visit act rest a tab q) (e ∙ ap (λ (x : Mark). came_as ns x v) g)
    ∙ ap (λ (t : State). carry rest a tab q (whole ns v.blocks v.state) (spent_of v) (act t)) (jump-same a (whole ns v.blocks v.state) (whole-at ns v.blocks v.state ∙ h))

-- ---- where its table and what is kept go on

-- the address is not carried out
module _ (act : State → Try Next) (a : ℕ) (ns : List ℕ) (m : Mark) (v : Way) (s : Slot) (e : s ≡ came_as ns m v) where
  pub sends-nothing : (tab : Table) → m ≡ Nothing → tab ≡ sends act a s tab
  unfolding sends came_as
  sends-nothing tab g = ap (λ (x : Slot). sends act a x tab) (sym (e ∙ ap (λ (x : Mark). came_as ns x v) g))

  pub departs-nothing : (o : Origins) → m ≡ Nothing → o ≡ departs act a s o
  unfolding departs came_as
  departs-nothing o g = ap (λ (x : Slot). departs act a x o) (sym (e ∙ ap (λ (x : Mark). came_as ns x v) g))

  pub departs-unlike : (o : Origins) → m ≡ Unlike → o ≡ departs act a s o
  unfolding departs came_as
  departs-unlike o g = ap (λ (x : Slot). departs act a x o) (sym (e ∙ ap (λ (x : Mark). came_as ns x v) g))

  -- or it is
  module _ (g : m ≡ Is) (h : v.state.at ≡ a) where
    there : jump a (whole ns v.blocks v.state) ≡ whole ns v.blocks v.state
    there = jump-same a (whole ns v.blocks v.state) (whole-at ns v.blocks v.state ∙ h)

    pub sends-way : (tab : Table) → sent (spent_of v) (act (whole ns v.blocks v.state)) tab ≡ sends act a s tab
    unfolding sends came_as arrival_of
    sends-way tab =
        ap (λ (t : State). sent (spent_of v) (act t) tab) (sym there)
        ∙ ap (λ (x : Slot). sends act a x tab) (sym (e ∙ ap (λ (x : Mark). came_as ns x v) g))

    pub departs-way : (o : Origins) → marked (spent_of v) (whole ns v.blocks v.state) (act (whole ns v.blocks v.state)) o ≡ departs act a s o
    unfolding departs came_as arrival_of
    departs-way o =
        ap (λ (t : State). marked (spent_of v) t (act t) o) (sym there)
        ∙ ap (λ (x : Slot). departs act a x o) (sym (e ∙ ap (λ (x : Mark). came_as ns x v) g))

-- the sums of a way that has come
pub way-spent : (ns : List ℕ) (m : Mark) (v : Way) (k : ℕ) → m ≡ Is → Spent k (came_as ns m v) → (v.cycles ≤ k) × (v.words ≤ k)
unfolding came_as arrival_of
way-spent ns m v k g h = subst (λ (x : Mark). Spent k (came_as ns x v)) g h
