-- What a step by value says of the walk, in each arm of the code. Assumes nothing.
use Prim.Native.Nat.{ℕ, ◌/◌, ◌%◌, ◌<◌, ◌≤◌}
use mathlib.Core.Path.{◌≡◌, sym, ap, subst, ◌∙◌}
use mathlib.Core.Bool.{Bool, true, false, cond}
use mathlib.Core.List.{List, [], ◌∷◌}
use native.Mathlib.Omega.{arith}
use borrow.Author.Tests.{eq-eqb, ne_eqb}
use Rattle.cells.specs.Try.{Try, stuck, done}
use Rattle.cells.specs.declared.Cell.{Cell}
use Rattle.cells.specs.Cells.{unknown}
use Rattle.machine.specs.Machine.{State, Code, Next, stops, goes, opens, jump, step}
use Rattle.machine_state.specs.declared.State as states
use Rattle.machine_state.specs.HeldState.{view, WellFormed, whole}
use Rattle.machine_state.proofs.StateLaws.{jump-whole}
use Rattle.bound_theory.specs.Tree.{Decision, N, T}
use Rattle.bound_theory.specs.Traces.{Move, move}
use Rattle.machine_step.specs.declared.Price.{Price}
use Rattle.machine_step.specs.declared.Next as next
use Rattle.machine_step.specs.declared.Next.TheVariants.{Stuck, Stops, Goes, Opens}
use Rattle.machine_step.specs.HeldStep.{of_price, of_next, SmallPrice, Small}
use Rattle.report.specs.HeldPath.{decode}
use Rattle.report.proofs.DecodeLaws.{decode-none, decode-more}
use Rattle.explain_walk.specs.declared.Walked.{Walked}
use Rattle.explain_walk.specs.Walk.{onward}
use Rattle.explain_walk.specs.Held.{unmade_walk, made_at, moves_by, StepsOn}

-- ---- decisions

no-decision : decode 1 ≡ []
no-decision = decode-none 1 (omega arith)

only-n : decode 2 ≡ N ∷ []
only-n = decode-more 2 (omega arith) ∙ ap (λ ds. N ∷ ds) no-decision

only-t : decode 3 ≡ T ∷ []
only-t = decode-more 3 (omega arith) ∙ ap (λ ds. T ∷ ds) no-decision

first-n : (path : ℕ) → 2 ≤ path → path % 2 ≡ 0 → decode path ≡ N ∷ decode (path / 2)
first-n path h e = decode-more path h ∙ ap (λ b. cond b N T ∷ decode (path / 2)) (eq-eqb (path % 2) 0 e)

first_t : (path : ℕ) → 2 ≤ path → (path % 2 ≡ 0 → ⊥) → decode path ≡ T ∷ decode (path / 2)
first_t path h e = decode-more path h ∙ ap (λ b. cond b N T ∷ decode (path / 2)) (ne_eqb (path % 2) 0 e)

-- ---- the arms

-- the step by value from a state, where a C_CALL gets an unknown: what comes next, and the state and the blocks after it
pub record Steps (c : Code) (ns : List ℕ) (state : states.State) (blocks : List Cell) (n : next.Next) (t : states.State) (fs : List Cell) : Type 0 where
  pub answer : Cell
  pub asked : answer ≡ unknown
  pub makes : of_next n (whole ns fs t) ≡ step c answer (whole ns blocks state)
  pub formed : WellFormed t
  pub small : Small n

module _ {c : Code} {ns : List ℕ} {state : states.State} {blocks : List Cell} {n : next.Next} {t : states.State} {fs : List Cell} (x : Steps c ns state blocks n t fs) (path : ℕ) where
  -- the moves of the walk, of whatever comes next
  abbrev Leads : Try Next → Type 0
  Leads m = (below : List Decision → State → List Move) → onward below (decode path) (whole ns blocks state) (step c unknown (whole ns blocks state)) ≡ onward below (decode path) (whole ns blocks state) m

  leads : (m : Try Next) → of_next n (whole ns fs t) ≡ m → Leads m
  leads m e below = ap (onward below (decode path) (whole ns blocks state)) (ap (λ b. step c b (whole ns blocks state)) (sym x.asked) ∙ sym x.makes ∙ e)

  -- a step that is not made
  not_made : {w : Walked} → w ≡ unmade_walk path t fs → Leads stuck → StepsOn c ns path state blocks w
  unfolding onward moves_by
  not_made is l = subst (StepsOn c ns path state blocks) (sym is) (record { moves = l; formed = x.formed; cycles = omega arith; words = omega arith })

  -- one that is made
  is_made : {stops : Bool} {p : Price} {way rest : ℕ} {j : states.State} {w : Walked} → w ≡ made_at stops p way rest j fs → WellFormed j → SmallPrice p
      → ((below : List Decision → State → List Move) → onward below (decode path) (whole ns blocks state) (step c unknown (whole ns blocks state)) ≡ move (whole ns blocks state) (of_price p) (decode way) ∷ cond stops [] (below (decode rest) (whole ns fs j)))
      → StepsOn c ns path state blocks w
  unfolding moves_by
  is_made is formed small l = subst (StepsOn c ns path state blocks) (sym is) (record { moves = l; formed = formed; cycles = small.cycles; words = small.words })

  pub at-stuck : n ≡ Stuck → {w : Walked} → w ≡ unmade_walk path t fs → StepsOn c ns path state blocks w
  unfolding of_next
  at-stuck e is = not_made is (leads stuck (ap (λ y. of_next y (whole ns fs t)) e))

  pub at-stop : (p : Price) → n ≡ Stops p → {w : Walked} → w ≡ made_at true p 1 path t fs → StepsOn c ns path state blocks w
  unfolding onward of_next
  at-stop p e is =
      is_made is x.formed (subst Small e x.small) (λ below.
      leads (done (stops (of_price p))) (ap (λ y. of_next y (whole ns fs t)) e) below
      ∙ ap (λ ds. move (whole ns blocks state) (of_price p) ds ∷ []) (sym no-decision))

  pub at-way : (p : Price) → n ≡ Goes p → {w : Walked} → w ≡ made_at false p 1 path t fs → StepsOn c ns path state blocks w
  unfolding onward of_next
  at-way p e is =
      is_made is x.formed (subst Small e x.small) (λ below.
      leads (done (goes (of_price p) (whole ns fs t))) (ap (λ y. of_next y (whole ns fs t)) e) below
      ∙ ap (λ ds. move (whole ns blocks state) (of_price p) ds ∷ below (decode path) (whole ns fs t)) (sym no-decision))

  module _ (p : Price) (to : ℕ) (q : Price) (e : n ≡ Opens p to q) where
    opened : (ds : List Decision) → decode path ≡ ds → (below : List Decision → State → List Move)
        → onward below (decode path) (whole ns blocks state) (step c unknown (whole ns blocks state)) ≡ onward below ds (whole ns blocks state) (done (opens (of_price p) (whole ns fs t) (of_price q) (jump to (whole ns fs t))))
    unfolding of_next
    opened ds d below =
        leads (done (opens (of_price p) (whole ns fs t) (of_price q) (jump to (whole ns fs t)))) (ap (λ y. of_next y (whole ns fs t)) e) below
        ∙ ap (λ es. onward below es (whole ns blocks state) (done (opens (of_price p) (whole ns fs t) (of_price q) (jump to (whole ns fs t))))) d

    prices : SmallPrice p × SmallPrice q
    prices = subst Small e x.small

    pub at-no-decision : path < 2 → {w : Walked} → w ≡ unmade_walk path t fs → StepsOn c ns path state blocks w
    unfolding onward
    at-no-decision h is = not_made is (opened [] (decode-none path h))

    pub at_n : 2 ≤ path → path % 2 ≡ 0 → {w : Walked} → w ≡ made_at false p 2 (path / 2) t fs → StepsOn c ns path state blocks w
    unfolding onward
    at_n h z is =
        is_made is x.formed prices.0 (λ below.
        opened (N ∷ decode (path / 2)) (first-n path h z) below
        ∙ ap (λ ds. move (whole ns blocks state) (of_price p) ds ∷ below (decode (path / 2)) (whole ns fs t)) (sym only-n))

    pub at-t : 2 ≤ path → (path % 2 ≡ 0 → ⊥) → (j : states.State) → (view j ≡ jump to (view t)) × WellFormed j → {w : Walked} → w ≡ made_at false q 3 (path / 2) j fs → StepsOn c ns path state blocks w
    unfolding onward
    at-t h z j (v, formed) is =
        is_made is formed prices.1 (λ below.
        opened (T ∷ decode (path / 2)) (first_t path h z) below
        ∙ ap (λ ds. move (whole ns blocks state) (of_price q) ds ∷ below (decode (path / 2)) (jump to (whole ns fs t))) (sym only-t)
        ∙ ap (λ u. move (whole ns blocks state) (of_price q) (decode 3) ∷ below (decode (path / 2)) u) (sym (jump-whole ns fs t j to v)))
