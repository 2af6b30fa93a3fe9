-- The arms of a turn: the next turn of each arm that goes on, and the promise kept by each that returns. What each arm leads to is in
-- `MadeLaws`. Assumes nothing.
use Rattle.std.specs.Prelude.{Err, Ok, Result, ⊤}
use mathlib.Core.Path.{◌≡◌, refl, sym, subst, ◌∙◌, ap}
use mathlib.Core.Bool.{Bool, true, false}
use mathlib.Core.List.{List}
use Prim.Native.Nat.{ℕ, suc, ◌+◌, ◌-◌, ◌*◌, ◌≤◌, ◌<◌}
use native.Mathlib.Omega.{arith}
use lib.Dec.{ltb}
use lib.IntN.{pos}
use lib.ListN.{length, get_or, set, length-set}
use borrow.Author.Tests.{ltb-true, ltb-false}
use Rattle.refusals.specs.declared.Refusal.{Refusal}
use Rattle.refusals.specs.declared.Refusal.TheVariants as refusals
use Rattle.cells.specs.Try.{Try, stuck, done, ◌>>=◌}
use Rattle.cells.specs.declared.Cell.{Cell}
use Rattle.instructions.specs.HeldColumns.{operation_of}
use Rattle.machine.specs.Machine.{height, Next, goes, opens, index, with_extra, reblock}
use Rattle.machine.specs.Machine as machine
use Rattle.machine_outcome.specs.HeldOutcome.{drops, operated}
use Rattle.machine_state.specs.declared.State.{State}
use Rattle.machine_state.specs.declared.registers.Registers.{Registers}
use Rattle.machine_state.specs.declared.code.Line.{Line}
use Rattle.machine_state.specs.HeldRegisters.{with_stack, popped, stored, loaded, advanced, placed}
use Rattle.machine_state.specs.HeldState.{WellFormed, Fits, whole}
use Rattle.machine_state.specs.HeldProgram.{program_of, sizes_of, line_of}
use Rattle.bound_figures.specs.declared.Found.{Found}
use Rattle.bound_figures.specs.declared.Tally.{Tally}
use Rattle.bound_figures.specs.HeldFigures.{more_of, jumped_of, joined_of, both_of, finished_of, refused_as, Summable}
use Rattle.bound_figures.proofs.PartLaws.{first-refused, second-refused, both-accepted}
use Rattle.bound_turns.specs.declared.Turn as code
use Rattle.bound_turns.specs.declared.Turn.TheVariants.{Goes, Jumps, Reads, Stores, Combines, Gets, Sets, Opens, Halts, Stuck}
use Rattle.bound_explorer.specs.declared.Ways.{Ways}
use Rattle.bound_explorer.specs.HeldContract.{Explores, Bounded}
use Rattle.bound_turns.specs.HeldTurn.{turned, Within}
use Rattle.bound_explorer.specs.HeldWays.{WaysExplored}
use Rattle.bound_explorer.proofs.LoopLaws as loop
use Rattle.bound_explorer.proofs.TurnLaws as turns
use Rattle.bound_explorer.proofs.ReturnLaws.{path-fits, refused-bounded, finished-bounded, joined-bounded}

module _ (ps : List ℕ) (o budget : ℕ) (fs₀ : List Cell) (s₀ : State) where
  abbrev act : machine.State → Try Next
  act = turns.act ps o budget fs₀ s₀

  abbrev Turn : List Cell → State → ℕ → Tally → Type 0
  Turn = turns.Turn ps o budget fs₀ s₀

  -- what is known once the turn is: r are the registers at the line's address after the push, st the stack, t' the tally with this step
  pub record Arm (fs : List Cell) (s : State) (left : ℕ) (t : Tally) (l : Line) (t' : Tally) (r : Registers) (st : List Cell) (d : Cell) (x : code.Turn) : Type 0 where
    pub turn : Turn fs s left t
    pub some : 0 < left
    pub small : (l.cycles < 4294967296) × ((l.words < 4294967296) × (l.extra < 4294967296))
    pub grown : t' ≡ more_of t (line_of l).price (64 - s.free)
    pub at : r.at ≡ s.at
    pub formed : WellFormed (with_stack r st)
    pub leads : act (whole (sizes_of ps) fs s) ≡ turned (sizes_of ps) (line_of l).price l.extra (operation_of l.code) l.operand r fs st d x
    pub within : Within (operation_of l.code) r fs x

  -- what is promised of an answer
  pub record Kept (r : Found) : Type 0 where
    pub explored : Explores (program_of ps) (sizes_of ps) fs₀ s₀ o budget r
    pub bounded : Bounded o budget r

  shown : (r r' : Found) → r ≡ r' → loop.Shown act o budget (whole (sizes_of ps) fs₀ s₀) r' → Bounded o budget r → Kept r
  shown r r' e h m = record { explored = rw e (record { shows = h.shows; counts = h.counts }); bounded = m }

module _ {ps : List ℕ} {o budget : ℕ} {fs₀ : List Cell} {s₀ : State} where
  -- ---- the ways out that need no outcome

  module _ {fs : List Cell} {s : State} {left : ℕ} {t : Tally} (i : Turn ps o budget fs₀ s₀ fs s left t) where
    pub spent-out : left ≤ 0 → (r : Found) → r ≡ refused_as (refusals.Spent s.at) budget → Kept ps o budget fs₀ s₀ r
    unfolding whole reblock
    spent-out h r e = shown ps o budget fs₀ s₀ r _ e (loop.spent-shown (act ps o budget fs₀ s₀) o budget (whole (sizes_of ps) fs₀ s₀) (whole (sizes_of ps) fs s) left t i.inv h) (refused-bounded o budget budget _ r e (omega arith))

    pub stuck-out : 0 < left → (act ps o budget fs₀ s₀) (whole (sizes_of ps) fs s) ≡ stuck → (r : Found) → r ≡ refused_as (refusals.Stuck s.at) (budget - (left - 1)) → Kept ps o budget fs₀ s₀ r
    unfolding whole reblock
    stuck-out h g r k =
        let used : budget - (left - 1) ≡ budget - left + 1 = omega (arith, i.inv.within) in
        let e : r ≡ refused_as (refusals.Stuck s.at) (budget - left + 1) = k ∙ ap (refused_as (refusals.Stuck s.at)) used in
        shown ps o budget fs₀ s₀ r _ e (loop.stuck-shown (act ps o budget fs₀ s₀) o budget (whole (sizes_of ps) fs₀ s₀) (whole (sizes_of ps) fs s) left t i.inv h g) (refused-bounded o budget (budget - left + 1) _ r e (omega (arith, i.inv.within)))

  module _ {fs : List Cell} {s : State} {left : ℕ} {t : Tally} {l : Line} {t' : Tally} {r : Registers} {st : List Cell} {d : Cell} {x : code.Turn} (a : Arm ps o budget fs₀ s₀ fs s left t l t' r st d x) where
    -- ---- the next turn

    plain-small : ((line_of l).price.cycles < 8589934592) × ((line_of l).price.words < 4294967296)
    plain-small = omega (arith, a.small.0, a.small.1.0)

    jumped-small : ((with_extra l.extra (line_of l).price).cycles < 8589934592) × ((with_extra l.extra (line_of l).price).words < 4294967296)
    unfolding with_extra
    jumped-small = omega (arith, a.small.0, a.small.1.0, a.small.1.1)

    again : (fs' : List Cell) (v : State) → (act ps o budget fs₀ s₀) (whole (sizes_of ps) fs s) ≡ done (goes (line_of l).price (whole (sizes_of ps) fs' v)) → WellFormed v → Fits (sizes_of ps) fs' → length fs' ≡ length fs → Turn ps o budget fs₀ s₀ fs' v (left - 1) t'
    again fs' v = turns.again ps o budget fs₀ s₀ fs s left t a.turn a.some (line_of l).price plain-small t' a.grown fs' v

    -- the same where a conditional branch jumps, with the extra in the tally t''
    again-jumped : (t'' : Tally) → t'' ≡ jumped_of t' l.extra → (fs' : List Cell) (v : State) → (act ps o budget fs₀ s₀) (whole (sizes_of ps) fs s) ≡ done (goes (with_extra l.extra (line_of l).price) (whole (sizes_of ps) fs' v)) → WellFormed v → Fits (sizes_of ps) fs' → length fs' ≡ length fs → Turn ps o budget fs₀ s₀ fs' v (left - 1) t''
    again-jumped t'' g fs' v =
        turns.again ps o budget fs₀ s₀ fs s left t a.turn a.some (with_extra l.extra (line_of l).price) jumped-small t''
        (g ∙ ap (λ x. jumped_of x l.extra) a.grown ∙ loop.jumped-more t (line_of l).price l.extra (64 - s.free)) fs' v

    made : (y : code.Turn) → x ≡ y → (act ps o budget fs₀ s₀) (whole (sizes_of ps) fs s) ≡ turned (sizes_of ps) (line_of l).price l.extra (operation_of l.code) l.operand r fs st d y
    made y e = a.leads ∙ ap (turned (sizes_of ps) (line_of l).price l.extra (operation_of l.code) l.operand r fs st d) e

    room : (y : code.Turn) → x ≡ y → Within (operation_of l.code) r fs y
    room y e = subst (Within (operation_of l.code) r fs) e a.within

    pub goes_on : (v : Registers) → x ≡ Goes v → Turn ps o budget fs₀ s₀ fs (with_stack v st) (left - 1) t'
    unfolding turned
    goes_on v e = again fs (with_stack v st) (made (Goes v) e) (record { free = room (Goes v) e; places = a.formed.places }) a.turn.fits refl

    pub jumps-on : (v : Registers) → x ≡ Jumps v → (t'' : Tally) → t'' ≡ jumped_of t' l.extra → Turn ps o budget fs₀ s₀ fs (with_stack v st) (left - 1) t''
    unfolding turned
    jumps-on v e t'' g = again-jumped t'' g fs (with_stack v st) (made (Jumps v) e) (record { free = room (Jumps v) e; places = a.formed.places }) a.turn.fits refl

    pub store-place : (i : ℕ) → x ≡ Stores i → i < 64
    store-place i e = room (Stores i) e

    pub stores-on : (i : ℕ) → x ≡ Stores i → (v : Registers) (c : Cell) → v ≡ advanced (stored r) → c ≡ r.accu → Turn ps o budget fs₀ s₀ fs (with_stack v (set st i c)) (left - 1) t'
    unfolding turned
    stores-on i e v c g h =
        subst (λ c. Turn ps o budget fs₀ s₀ fs (with_stack v (set st i c)) (left - 1) t') (sym h)
        (subst (λ v. Turn ps o budget fs₀ s₀ fs (with_stack v (set st i r.accu)) (left - 1) t') (sym g)
        (again fs (with_stack (advanced (stored r)) (set st i r.accu)) (made (Stores i) e) (record { free = a.formed.free; places = length-set st _ _ ∙ a.formed.places }) a.turn.fits refl))

    -- a cell in the accumulator
    loads : (c : Cell) (w : Registers) → (act ps o budget fs₀ s₀) (whole (sizes_of ps) fs s) ≡ done (goes (line_of l).price (whole (sizes_of ps) fs (with_stack (advanced (loaded c w)) st))) → w.free ≤ 64 → (v : Registers) → v ≡ advanced (loaded c w) → Turn ps o budget fs₀ s₀ fs (with_stack v st) (left - 1) t'
    loads c w e h v g =
        subst (λ v. Turn ps o budget fs₀ s₀ fs (with_stack v st) (left - 1) t') (sym g)
        (again fs (with_stack (advanced (loaded c w)) st) e (record { free = h; places = a.formed.places }) a.turn.fits refl)

    pub read-place : (k : ℕ) → x ≡ Reads k → k < 64
    read-place k e = room (Reads k) e

    pub reads_on : (k : ℕ) → x ≡ Reads k → (v : Registers) → v ≡ advanced (loaded (get_or st k d) r) → Turn ps o budget fs₀ s₀ fs (with_stack v st) (left - 1) t'
    unfolding turned
    reads_on k e v g = loads (get_or st k d) r (made (Reads k) e) a.formed.free v g

    pub combine-place : x ≡ Combines → (r.free + 1 ≤ 64) × (drops (operation_of l.code) 0 ≡ 1)
    combine-place e = room Combines e

    module _ (e : x ≡ Combines) (m : Try Cell) (given : m ≡ operated (operation_of l.code) (pos 0) r.accu (get_or st r.free d)) where
      combined : (act ps o budget fs₀ s₀) (whole (sizes_of ps) fs s) ≡ (m >>= λ c. done (goes (line_of l).price (whole (sizes_of ps) fs (with_stack (advanced (loaded c (popped 1 r))) st))))
      unfolding turned
      combined = made Combines e ∙ ap (λ m. m >>= λ c. done (goes (line_of l).price (whole (sizes_of ps) fs (with_stack (advanced (loaded c (popped 1 r))) st)))) (sym given)

      pub combines-on : (c : Cell) → m ≡ done c → (v : Registers) → v ≡ advanced (loaded c (popped 1 r)) → Turn ps o budget fs₀ s₀ fs (with_stack v st) (left - 1) t'
      unfolding ◌>>=◌
      combines-on c h v g = loads c (popped 1 r) (combined ∙ ap (λ m. m >>= λ c. done (goes (line_of l).price (whole (sizes_of ps) fs (with_stack (advanced (loaded c (popped 1 r))) st)))) h) (combine-place e).0 v g

      pub combines-nothing : m ≡ stuck → (q : Found) → q ≡ refused_as (refusals.Stuck r.at) (budget - (left - 1)) → Kept ps o budget fs₀ s₀ q
      unfolding ◌>>=◌
      combines-nothing h q g =
          stuck-out a.turn a.some (combined ∙ ap (λ m. m >>= λ c. done (goes (line_of l).price (whole (sizes_of ps) fs (with_stack (advanced (loaded c (popped 1 r))) st)))) h) q
          (g ∙ ap (λ y. refused_as (refusals.Stuck y) (budget - (left - 1))) a.at)

    pub set-place : (j : ℕ) → x ≡ Sets j → (j < length fs) × (r.free + 1 ≤ 64)
    set-place j e = room (Sets j) e

    pub sets-on : (j : ℕ) → x ≡ Sets j → (v : Registers) (c : Cell) → v ≡ advanced (stored (popped 1 r)) → c ≡ get_or st r.free d → Turn ps o budget fs₀ s₀ (set fs j c) (with_stack v st) (left - 1) t'
    unfolding turned
    sets-on j e v c g h =
        subst (λ c. Turn ps o budget fs₀ s₀ (set fs j c) (with_stack v st) (left - 1) t') (sym h)
        (subst (λ v. Turn ps o budget fs₀ s₀ (set fs j (get_or st r.free d)) (with_stack v st) (left - 1) t') (sym g)
        (again (set fs j (get_or st r.free d)) (with_stack (advanced (stored (popped 1 r))) st) (made (Sets j) e) (record { free = (set-place j e).1; places = a.formed.places })
        (record { few = a.turn.fits.few; room = simp length-set a.turn.fits.room }) (length-set fs j (get_or st r.free d))))

    pub get-place : (j : ℕ) → x ≡ Gets j → j < length fs
    get-place j e = room (Gets j) e

    pub gets-on : (j : ℕ) → x ≡ Gets j → (v : Registers) → v ≡ advanced (loaded (get_or fs j d) r) → Turn ps o budget fs₀ s₀ fs (with_stack v st) (left - 1) t'
    unfolding turned
    gets-on j e v g = loads (get_or fs j d) r (made (Gets j) e) a.formed.free v g

    -- ---- the arms that return

    used-is : budget - (left - 1) ≡ budget - left + 1
    used-is = omega (arith, a.turn.inv.within, a.some)

    pub stops-short : x ≡ Stuck → (q : Found) → q ≡ refused_as (refusals.Stuck r.at) (budget - (left - 1)) → Kept ps o budget fs₀ s₀ q
    unfolding turned
    stops-short e q g = stuck-out a.turn a.some (made Stuck e) q (g ∙ ap (λ y. refused_as (refusals.Stuck y) (budget - (left - 1))) a.at)

    costs : (t'.cycles ≤ 8589934592 * (budget - left + 1)) × (t'.words ≤ 4294967296 * (budget - left + 1))
    costs =
        let used-is : budget - (left - 1) ≡ budget - left + 1 = omega (arith, a.turn.inv.within, a.some) in
        subst (λ k. (t'.cycles ≤ 8589934592 * k) × (t'.words ≤ 4294967296 * k)) used-is
        (turns.costs ps o budget fs₀ s₀ fs s left t a.turn a.some (line_of l).price plain-small t' a.grown)

    pub tally-small : budget ≤ 1000000 → t'.cycles ≤ 8589934592000000
    tally-small h = omega (arith, costs.0, a.turn.inv.within, a.some)

    -- with the extra too
    jumped-costs : t'.cycles + l.extra ≤ 8589934592 * (budget - left + 1)
    unfolding more_of
    jumped-costs =
        let e : t'.cycles ≡ t.cycles + l.cycles = ap (λ (x : Tally). x.cycles) a.grown in
        omega (arith, e, a.turn.cycles, a.small.0, a.small.1.1)

    more-is : t' ≡ more_of t (line_of l).price (height (whole (sizes_of ps) fs s))
    more-is = turns.more-is ps o budget fs₀ s₀ fs s left t a.turn a.some (line_of l).price plain-small t' a.grown

    pub halts-out : x ≡ Halts → (q : Found) → q ≡ finished_of t' (budget - (left - 1)) → Kept ps o budget fs₀ s₀ q
    unfolding turned
    halts-out h q k =
        let g : q ≡ finished_of t' (budget - left + 1) = k ∙ ap (finished_of t') used-is in
        shown ps o budget fs₀ s₀ q (finished_of (more_of t (line_of l).price (height (whole (sizes_of ps) fs s))) (budget - left + 1)) (g ∙ ap (λ y. finished_of y (budget - left + 1)) more-is)
        (loop.halts (act ps o budget fs₀ s₀) o budget (whole (sizes_of ps) fs₀ s₀) (whole (sizes_of ps) fs s) left t a.turn.inv a.some (line_of l).price (made Halts h))
        (finished-bounded o budget (budget - left + 1) t' q g (omega (arith, a.turn.inv.within, a.some)) costs.0 costs.1)

    -- ---- the two ways of a branch

    module _ (h : x ≡ Opens) (w : Ways) (ways : WaysExplored (program_of ps) (sizes_of ps) l fs (with_stack r st) o (left - 1) w) where
      abbrev f : Found
      f = w.untaken

      abbrev g : Found
      g = w.taken

      abbrev u : State
      u = with_stack (advanced r) st

      abbrev v : State
      v = with_stack (placed (index l.operand) r) st

      opened : (act ps o budget fs₀ s₀) (whole (sizes_of ps) fs s) ≡ done (opens (line_of l).price (whole (sizes_of ps) fs u) (with_extra l.extra (line_of l).price) (whole (sizes_of ps) fs v))
      unfolding turned
      opened = made Opens h

      pub sums : o ≤ 32 → budget ≤ 1000000 → Summable t' (budget - (left - 1)) f g
      sums ho hb =
          let mf = ways.first_bounded in
          let mg = ways.second_bounded in
          record {
            steps = omega (arith, a.turn.inv.within, a.some, mf.used, mg.used);
            tally = (omega (arith, costs.0, a.turn.inv.within, a.some), omega (arith, costs.1, a.turn.inv.within, a.some));
            first = (omega (arith, mf.cycles, mf.used, a.turn.inv.within), omega (arith, mf.words, mf.used, a.turn.inv.within));
            second = (omega (arith, mg.cycles, mg.used, a.turn.inv.within), omega (arith, mg.words, mg.used, a.turn.inv.within));
            paths = (path-fits o f.path ho mf.path, path-fits o g.path ho mg.path);
          }

      over-out : o ≡ 0 → (q : Found) → q ≡ both_of t' (budget - left + 1) f l.extra g → Kept ps o budget fs₀ s₀ q
      unfolding whole reblock refused_as
      over-out z q k =
          let no = ways.over z in
          let verdict : f.verdict ≡ Err (refusals.Openings r.at) = ap (λ (y : Found). y.verdict) no in
          let none : f.used ≡ 0 = ap (λ (y : Found). y.used) no in
          let count : budget - left + 1 + f.used ≡ budget - left + 1 = omega arith in
          let is : q ≡ refused_as (refusals.Openings s.at) (budget - left + 1) =
          k ∙ first-refused t' (budget - left + 1) f l.extra g _ verdict ∙ ap (refused_as (refusals.Openings r.at)) count ∙ ap (λ y. refused_as (refusals.Openings y) (budget - left + 1)) a.at in
          shown ps o budget fs₀ s₀ q _ is
          (loop.over-shown (act ps o budget fs₀ s₀) o budget (whole (sizes_of ps) fs₀ s₀) (whole (sizes_of ps) fs s) left t a.turn.inv a.some _ _ _ _ opened z)
          (refused-bounded o budget (budget - left + 1) _ q is (omega (arith, a.turn.inv.within, a.some)))

      module _ (z : 0 < o) where
        lower : o ≡ suc (o - 1)
        lower = omega arith

        ef : Explores (program_of ps) (sizes_of ps) fs u (o - 1) (left - 1) f
        ef = ways.first z

        first_out : (y : Refusal) → f.verdict ≡ Err y → (q : Found) → q ≡ refused_as y (budget - left + 1 + f.used) → Kept ps o budget fs₀ s₀ q
        first_out y refuses q k =
            shown ps o budget fs₀ s₀ q _ k
            (loop.first-fails (act ps o budget fs₀ s₀) o budget (whole (sizes_of ps) fs₀ s₀) (whole (sizes_of ps) fs s) left t a.turn.inv a.some _ _ _ _ opened (o - 1) lower f ef.shows ef.counts y refuses)
            (refused-bounded o budget (budget - left + 1 + f.used) _ q k (omega (arith, a.turn.inv.within, a.some, ways.first_bounded.used)))

        module _ (Done-first : f.verdict ≡ Ok tt) where
          eg : Explores (program_of ps) (sizes_of ps) fs v (o - 1) (left - 1 - f.used) g
          eg = ways.second z Done-first

          second-out : (y : Refusal) → g.verdict ≡ Err y → (q : Found) → q ≡ refused_as y (budget - left + 1 + f.used + g.used) → Kept ps o budget fs₀ s₀ q
          second-out y refuses q k =
              shown ps o budget fs₀ s₀ q _ k
              (loop.second-fails (act ps o budget fs₀ s₀) o budget (whole (sizes_of ps) fs₀ s₀) (whole (sizes_of ps) fs s) left t a.turn.inv a.some _ _ _ _ opened (o - 1) lower f ef.shows ef.counts Done-first g eg.shows eg.counts y refuses)
              (refused-bounded o budget (budget - left + 1 + f.used + g.used) _ q k (omega (arith, a.turn.inv.within, a.some, ways.first_bounded.used, ways.second_bounded.used)))

          joined-out : g.verdict ≡ Ok tt → (q : Found) → q ≡ joined_of t' (budget - left + 1) f l.extra g → Kept ps o budget fs₀ s₀ q
          joined-out done-second q k =
              shown ps o budget fs₀ s₀ q (joined_of (more_of t (line_of l).price (height (whole (sizes_of ps) fs s))) (budget - left + 1) f l.extra g) (k ∙ ap (λ y. joined_of y (budget - left + 1) f l.extra g) more-is)
              (loop.both-done (act ps o budget fs₀ s₀) o budget (whole (sizes_of ps) fs₀ s₀) (whole (sizes_of ps) fs s) left t a.turn.inv a.some _ _ _ _ opened (o - 1) lower f ef.shows ef.counts Done-first g eg.shows eg.counts l.extra refl done-second)
              (joined-bounded o budget (budget - left + 1) (left - 1) t' l.extra f g q k z (omega (arith, a.turn.inv.within, a.some)) jumped-costs costs.1 ways.first_bounded ways.second_bounded)

          second_way : (y : Result ⊤ Refusal) → g.verdict ≡ y → (q : Found) → q ≡ both_of t' (budget - left + 1) f l.extra g → Kept ps o budget fs₀ s₀ q
          second_way (Ok tt) e q k = joined-out e q (k ∙ both-accepted t' (budget - left + 1) f l.extra g Done-first e)
          second_way (Err y) e q k = second-out y e q (k ∙ second-refused t' (budget - left + 1) f l.extra g Done-first y e)

        first_way : (y : Result ⊤ Refusal) → f.verdict ≡ y → (q : Found) → q ≡ both_of t' (budget - left + 1) f l.extra g → Kept ps o budget fs₀ s₀ q
        first_way (Ok tt) e q k = second_way e g.verdict refl q k
        first_way (Err y) e q k = first_out y e q (k ∙ first-refused t' (budget - left + 1) f l.extra g y e)

      pub both_out : (q : Found) → q ≡ both_of t' (budget - (left - 1)) f l.extra g → Kept ps o budget fs₀ s₀ q
      both_out q k = go (ltb 0 o) refl
        where
          is : q ≡ both_of t' (budget - left + 1) f l.extra g
          is = k ∙ ap (λ y. both_of t' y f l.extra g) used-is

          go : (b : Bool) → ltb 0 o ≡ b → Kept ps o budget fs₀ s₀ q
          go true e = first_way (ltb-true 0 o e) f.verdict refl q is
          go false e = over-out (let z = ltb-false 0 o e in omega arith) q is
