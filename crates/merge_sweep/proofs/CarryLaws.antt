-- Laws of an address that is carried out: by what its step leads to, what the code leaves is what the definition goes on with. Assumes
-- nothing.
use Rattle.std.specs.Prelude.{Err, Ok, None, Option, Some}
use Prim.Native.Nat.{ℕ, suc, ◌+◌, ◌-◌, ◌<◌, ◌≤◌, max}
use mathlib.Core.Path.{◌≡◌, refl, sym, ap, ap₂, subst, ◌∙◌}
use mathlib.Core.Bool.{Bool, false}
use mathlib.Core.List.{List}
use native.Mathlib.Nat.{max-le}
use native.Mathlib.Omega.{arith}
use lib.ListN.{length, length-set}
use Rattle.refusals.specs.declared.Refusal.{Refusal}
use Rattle.refusals.specs.declared.Refusal.TheVariants.{Stuck}
use Rattle.cells.specs.Try.{Try, stuck, done}
use Rattle.cells.specs.declared.Cell.{Cell}
use Rattle.cells.specs.Cells.{unknown}
use Rattle.cells.specs.HeldConfined.{Kept}
use Rattle.cells.proofs.CellLaws.{kept-lawful, unknown-kept}
use Rattle.machine.specs.Machine.{State, Price, Next, stops, goes, opens, Code, height, jump, sum, reblock, step}
use Rattle.machine.specs.Order.{Cellwise}
use Rattle.machine.proofs.NextCovering.{Leads, leads-self}
use Rattle.machine.proofs.StepLaws.{step-law}
use Rattle.machine_state.specs.declared.State as code
use Rattle.machine_state.specs.HeldState.{view, WellFormed, whole}
use Rattle.machine_state.proofs.StateLaws.{height-is, jump-whole}
use Rattle.bound_theory.specs.Tree.{Report, Verdict, refused}
use Rattle.machine_step.specs.declared.Price as steps
use Rattle.machine_step.specs.declared.Next as leads-to
use Rattle.machine_step.specs.declared.Next.TheVariants as leads
use Rattle.machine_step.specs.HeldStep.{of_price, SmallPrice, of_next, Differs}
use Rattle.bound_figures.specs.declared.Found.{Found}
use Rattle.bound_figures.specs.HeldFigures.{accepted_as, encode, refused_as}
use Rattle.merge_theory.specs.Ways.{sent}
use Rattle.merge_way.specs.Way.{Origins, marked}
use Rattle.merge_origins.specs.HeldOrigins.{Keeps}
use Rattle.merge_theory.specs.Merge.{Arrival, arrival, Table, slot, arrive, send, reach, finish, carry}
use Rattle.merge_rows.specs.declared.Way.{Way}
use Rattle.merge_rows.specs.HeldRows.{Formed, Numeric, Rows, arrival_of, slot_at, join_at, waiting}
use Rattle.merge_sweep.specs.declared.Pass.{Pass}
use Rattle.merge_sweep.specs.HeldPass.{Comes, Spent, most, Figures, Ready, Agrees, Moved, moved, spent_of}
use Rattle.merge_sweep.proofs.PassLaws.{alone, arrived, spent-more, spent-at}

-- ---- the figures

-- a record by its fields
found-is : (f : Found) {v : _} {u c w d p : ℕ} → f.verdict ≡ v → f.used ≡ u → f.cycles ≡ c → f.words ≡ w → f.depth ≡ d → f.path ≡ p
    → f ≡ record { verdict = v; used = u; cycles = c; words = w; depth = d; path = p }
found-is f a b c d e g = rw (← a, ← b, ← c, ← d, ← e, ← g) refl

-- what the code's figures are, after an address of a stack of height h is reached
abbrev pub Reached : Found → ℕ → Found → Type 0
Reached f h g = (g.verdict ≡ Ok tt) × (g.used ≡ suc f.used) × (g.cycles ≡ f.cycles) × (g.words ≡ f.words) × (g.depth ≡ max f.depth h) × (g.path ≡ 1)

-- and after a way of the sums k and l has ended
abbrev pub Ended : Found → ℕ → ℕ → Found → Type 0
Ended f k l g = (g.verdict ≡ Ok tt) × (g.used ≡ f.used) × (g.cycles ≡ max f.cycles k) × (g.words ≡ max f.words l) × (g.depth ≡ f.depth) × (g.path ≡ 1)

pub reached-as : (f g : Found) (q : Report) (s : State) (h : ℕ) → Reached f h g → h ≡ height s → f ≡ accepted_as q → g ≡ accepted_as (reach s q)
unfolding accepted_as reach encode
reached-as f g q s h r e a =
    found-is g r.0 (r.1 ∙ ap (λ (x : Found). suc x.used) a) (r.2 ∙ ap (λ (x : Found). x.cycles) a) (r.3 ∙ ap (λ (x : Found). x.words) a)
    (r.4 ∙ ap₂ (λ (x : Found) (n : ℕ). max x.depth n) a e) r.5

pub ended-as : (f g : Found) (q : Report) (p r : Price) (k l : ℕ) → Ended f k l g → k ≡ p.cycles + r.cycles → l ≡ p.words + r.words → f ≡ accepted_as q
    → g ≡ accepted_as (finish p (stops r) q)
unfolding accepted_as finish encode
ended-as f g q p r k l e m n a =
    found-is g e.0 (e.1 ∙ ap (λ (x : Found). x.used) a) (e.2 ∙ ap₂ (λ (x : Found) (i : ℕ). max x.cycles i) a m)
    (e.3 ∙ ap₂ (λ (x : Found) (i : ℕ). max x.words i) a n) (e.4 ∙ ap (λ (x : Found). x.depth) a) e.5

pub reached-figures : (j : ℕ) (f g : Found) (h : ℕ) → h ≤ 64 → Reached f h g → Figures j f → Figures (j + 1) g
reached-figures j f g h l r i = record {
  used = rw r.1 (omega (arith, i.used));
  cycles = rw r.2 (omega (arith, i.cycles));
  words = rw r.3 (omega (arith, i.words));
  depth = rw r.4 (max-le i.depth l);
}

pub ended-figures : (j : ℕ) (f g : Found) (k l : ℕ) → Ended f k l g → k ≤ most j → l ≤ most j → Figures j f → Figures j g
ended-figures j f g k l e m n i = record {
  used = rw e.1 i.used;
  cycles = rw e.2 (max-le i.cycles m);
  words = rw e.3 (max-le i.words n);
  depth = rw e.4 i.depth;
}

pub refused-figures : (j : ℕ) (x : Refusal) (g : Found) → g ≡ refused_as x 0 → Figures j g
unfolding refused_as
refused-figures j x g e = rw e (record { used = omega arith; cycles = omega arith; words = omega arith; depth = omega arith })

pub refused-verdict : (x : Refusal) (g : Found) → g ≡ refused_as x 0 → g.verdict ≡ Err x
unfolding refused_as
refused-verdict x g e = ap (λ (f : Found). f.verdict) e

-- ---- a way after a step

-- what the code's way is, after a step of the way w at the price p
abbrev pub Paid : Way → code.State → List Cell → steps.Price → Way → Type 0
Paid w s bl p v = (v.state ≡ s) × (v.blocks ≡ bl) × (v.cycles ≡ w.cycles + p.cycles) × (v.words ≡ w.words + p.words)

pub paid-as : (ns : List ℕ) (w v : Way) (s : code.State) (bl : List Cell) (p : steps.Price) → Paid w s bl p v → arrival (whole ns bl s) (sum (spent_of w) (of_price p)) ≡ arrival_of ns v
unfolding arrival_of
paid-as ns w v s bl p e = rw (e.0, e.1, e.2, e.3) refl

pub paid-formed : (w v : Way) (s : code.State) (bl : List Cell) (p : steps.Price) → Paid w s bl p v → WellFormed s → length bl ≡ 128 → Formed v
paid-formed w v s bl p e f l = record { state = rw e.0 f; fields = rw e.1 l }

pub paid-numeric : (ns : List ℕ) (w v : Way) (s : code.State) (bl : List Cell) (p : steps.Price) → Paid w s bl p v → Cellwise Kept (whole ns bl s) (whole ns bl s) → Numeric ns v
paid-numeric ns w v s bl p e k = rw (e.0, e.1) k

-- its sums
pub paid-cycles : (j : ℕ) (w v : Way) (s : code.State) (bl : List Cell) (p : steps.Price) → Paid w s bl p v → w.cycles ≤ most j → SmallPrice p → v.cycles ≤ most (j + 1)
paid-cycles j w v s bl p e h k = rw e.2 (omega (arith, k.cycles))

pub paid-words : (j : ℕ) (w v : Way) (s : code.State) (bl : List Cell) (p : steps.Price) → Paid w s bl p v → w.words ≤ most j → SmallPrice p → v.words ≤ most (j + 1)
paid-words j w v s bl p e h k = rw e.3 (omega (arith, k.words))

spent-cycles : (ns : List ℕ) (v : Way) (m : ℕ) → v.cycles ≤ m → (arrival_of ns v).spent.cycles ≤ m
unfolding arrival_of
spent-cycles ns v m h = h

spent-words : (ns : List ℕ) (v : Way) (m : ℕ) → v.words ≤ m → (arrival_of ns v).spent.words ≤ m
unfolding arrival_of
spent-words ns v m h = h

-- ---- by what the step leads to

-- the rows after that of j hold no more than j steps can cost, so no more than one more can
abbrev pub Under : List ℕ → ℕ → ℕ → ℕ → ℕ → List ℕ → Type 0
Under ns first n j m rs = (b : ℕ) → j < b → b < n → Spent (most m) (slot_at ns first rs b)

pub raised : (ns : List ℕ) (first n j : ℕ) (rs : List ℕ) → Under ns first n j j rs → Under ns first n j (j + 1) rs
raised ns first n j rs u b h k = spent-more (most j) (most (j + 1)) (omega arith) (slot_at ns first rs b) (u b h k)

module _ (ns : List ℕ) (first n j : ℕ) (rs : List ℕ) (sums : Under ns first n j (j + 1) rs) where
  -- nothing is sent, and no way goes to the next address
  pub stays-ready : Rows rs → (g : Found) (w : Way) → Figures (j + 1) g → Ready ns first n (j + 1) rs (record { found = g; here = false; way = w })
  stays-ready rows g w i = record {
    rows = rows;
    figures = i;
    comes = tt;
    sums = λ b h k. rw (alone ns w (j + 1) b (slot_at ns first rs b)) (sums b (omega arith) k);
  }

  pub stays-agree : (tab : Table) (w : Way) → ((b : ℕ) → j < b → b < n → slot (tab (first + b)) ≡ slot_at ns first rs b) → Agrees ns first n (j + 1) tab rs false w
  stays-agree tab w a b h k = a b (omega arith) k ∙ sym (alone ns w (j + 1) b (slot_at ns first rs b))

  -- one way goes on, v
  module _ (rs' : List ℕ) (v : Way) (here : Bool)
      (on : (b : ℕ) → j < b → b < n → waiting ns here v (j + 1) b (slot_at ns first rs' b) ≡ join_at (first + b) (arrival_of ns v) (slot_at ns first rs b)) where
    pub goes-ready : Rows rs' → (g : Found) → Figures (j + 1) g → Comes ns here v (first + (j + 1)) → v.cycles ≤ most (j + 1) → v.words ≤ most (j + 1)
        → Ready ns first n (j + 1) rs' (record { found = g; here = here; way = v })
    goes-ready rows g i c m l = record {
      rows = rows;
      figures = i;
      comes = c;
      sums = λ b h k.
          rw (on b (omega arith) k)
          (spent-at (most (j + 1)) (first + b) (slot_at ns first rs b) (arrival_of ns v) (sums b (omega arith) k) (spent-cycles ns v _ m) (spent-words ns v _ l));
    }

    pub goes-agree : (tab : Table) → ((b : ℕ) → j < b → b < n → slot (tab (first + b)) ≡ slot_at ns first rs b)
        → Agrees ns first n (j + 1) (arrive (arrival_of ns v) tab) rs' here v
    goes-agree tab a b h k =
        arrived (arrival_of ns v) tab (first + b)
        ∙ ap (join_at (first + b) (arrival_of ns v)) (a b (omega arith) k)
        ∙ sym (on b (omega arith) k)

  -- a way y is sent
  module _ (rs' : List ℕ) (y : Way) (to : (b : ℕ) → b < n → slot_at ns first rs' b ≡ join_at (first + b) (arrival_of ns y) (slot_at ns first rs b)) where
    pub sent-sums : y.cycles ≤ most (j + 1) → y.words ≤ most (j + 1) → Under ns first n j (j + 1) rs'
    sent-sums m l b h k =
        rw (to b k) (spent-at (most (j + 1)) (first + b) (slot_at ns first rs b) (arrival_of ns y) (sums b h k) (spent-cycles ns y _ m) (spent-words ns y _ l))

    pub sent-agree : (tab : Table) → ((b : ℕ) → j < b → b < n → slot (tab (first + b)) ≡ slot_at ns first rs b)
        → (b : ℕ) → j < b → b < n → slot (arrive (arrival_of ns y) tab (first + b)) ≡ slot_at ns first rs' b
    sent-agree tab a b h k = arrived (arrival_of ns y) tab (first + b) ∙ ap (join_at (first + b) (arrival_of ns y)) (a b h k) ∙ sym (to b k)

-- ---- what the step in code leads to

pub leads-stuck : (x : leads-to.Next) (s : State) (f : Cell → Try Next) (u : Cell) → x ≡ leads.Stuck → u ≡ unknown → of_next x s ≡ f u → stuck ≡ f unknown
unfolding of_next
leads-stuck x s f u e g h = ap (λ (y : leads-to.Next). of_next y s) (sym e) ∙ h ∙ ap f g

pub leads-stops : (x : leads-to.Next) (p : steps.Price) (s : State) (f : Cell → Try Next) (u : Cell) → x ≡ leads.Stops p → u ≡ unknown → of_next x s ≡ f u → done (stops (of_price p)) ≡ f unknown
unfolding of_next
leads-stops x p s f u e g h = ap (λ (y : leads-to.Next). of_next y s) (sym e) ∙ h ∙ ap f g

pub leads_goes : (x : leads-to.Next) (p : steps.Price) (s : State) (f : Cell → Try Next) (u : Cell) → x ≡ leads.Goes p → u ≡ unknown → of_next x s ≡ f u → done (goes (of_price p) s) ≡ f unknown
unfolding of_next
leads_goes x p s f u e g h = ap (λ (y : leads-to.Next). of_next y s) (sym e) ∙ h ∙ ap f g

pub leads-opens : (x : leads-to.Next) (p q : steps.Price) (a : ℕ) (s : State) (f : Cell → Try Next) (u : Cell) → x ≡ leads.Opens p a q → u ≡ unknown → of_next x s ≡ f u
    → done (opens (of_price p) s (of_price q) (jump a s)) ≡ f unknown
unfolding of_next
leads-opens x p q a s f u e g h = ap (λ (y : leads-to.Next). of_next y s) (sym e) ∙ h ∙ ap f g

pub same-fields : (x : Option (ℕ × Cell)) (fs gs : List Cell) → Differs x fs gs → length fs ≡ 128 → length gs ≡ 128
same-fields None fs gs e l = ap length e ∙ l
same-fields (Some (i, c)) fs gs e l = ap length e.1 ∙ length-set fs i c ∙ l

pub way-height : (ns : List ℕ) (w : Way) → WellFormed w.state → 64 - w.state.free ≡ height (whole ns w.blocks w.state)
unfolding height whole reblock
way-height ns w f = sym (height-is w.state f)

pub jumped-as : (ns : List ℕ) (w v : Way) (s t : code.State) (bl : List Cell) (p : steps.Price) (a : ℕ) → view t ≡ jump a (view s) → Paid w t bl p v
    → arrival (jump a (whole ns bl s)) (sum (spent_of w) (of_price p)) ≡ arrival_of ns v
jumped-as ns w v s t bl p a e g = ap (λ (u : State). arrival u (sum (spent_of w) (of_price p))) (sym (jump-whole ns bl s t a e)) ∙ paid-as ns w v t bl p g

-- the numbers of the states that a step leads to have as many bits as numbers have

module _ (c : Code) (s : State) where
  leads-numeric : Cellwise Kept s s → {m : Try Next} → m ≡ step c unknown s → Leads (λ (u : State). Cellwise Kept u u) m
  leads-numeric k e = subst (Leads (λ (u : State). Cellwise Kept u u)) (sym e) (leads-self refl (step-law kept-lawful c unknown-kept k))

  pub goes-numeric : (t : State) (p : Price) → Cellwise Kept s s → done (goes p t) ≡ step c unknown s → Cellwise Kept t t
  goes-numeric t p k e = leads-numeric k e

  pub opens-numeric : (t u : State) (p q : Price) → Cellwise Kept s s → done (opens p t q u) ≡ step c unknown s → Cellwise Kept t t × Cellwise Kept u u
  opens-numeric t u p q k e = leads-numeric k e

pub jump-numeric : (ns : List ℕ) (bl : List Cell) (s t : code.State) (a : ℕ) → view t ≡ jump a (view s) → Cellwise Kept (jump a (whole ns bl s)) (jump a (whole ns bl s)) → Cellwise Kept (whole ns bl t) (whole ns bl t)
jump-numeric ns bl s t a e k = rw (jump-whole ns bl s t a e) k

-- ---- what the definition goes on with

pub carried-stuck : (rest : Table → Report → Verdict) (a : ℕ) (tab : Table) (q : Report) (s : State) (p : Price) (t : Try Next) → stuck ≡ t → carry rest a tab q s p t ≡ refused (Stuck a)
unfolding carry
carried-stuck rest a tab q s p t e = ap (carry rest a tab q s p) (sym e)

pub carried-stops : (rest : Table → Report → Verdict) (a : ℕ) (tab : Table) (q : Report) (s : State) (p r : Price) (t : Try Next) → done (stops r) ≡ t
    → carry rest a tab q s p t ≡ rest tab (finish p (stops r) (reach s q))
unfolding carry send
carried-stops rest a tab q s p r t e = ap (carry rest a tab q s p) (sym e)

pub carried-goes : (rest : Table → Report → Verdict) (a : ℕ) (tab : Table) (q : Report) (s u : State) (p r : Price) (x : Arrival) (t : Try Next) → done (goes r u) ≡ t → arrival u (sum p r) ≡ x
    → carry rest a tab q s p t ≡ rest (arrive x tab) (reach s q)
unfolding carry send finish
carried-goes rest a tab q s u p r x t e g = ap (carry rest a tab q s p) (sym e) ∙ ap (λ (z : Arrival). rest (arrive z tab) (reach s q)) g

pub carried-opens : (rest : Table → Report → Verdict) (a : ℕ) (tab : Table) (q : Report) (s u v : State) (p r r' : Price) (x y : Arrival) (t : Try Next) → done (opens r u r' v) ≡ t
    → arrival u (sum p r) ≡ x → arrival v (sum p r') ≡ y → carry rest a tab q s p t ≡ rest (arrive x (arrive y tab)) (reach s q)
unfolding carry send finish
carried-opens rest a tab q s u v p r r' x y t e g h =
    ap (carry rest a tab q s p) (sym e) ∙ ap₂ (λ (z z' : Arrival). rest (arrive z (arrive z' tab)) (reach s q)) g h

-- ---- the table of the definition, with the ways of the step

pub stops-sent : (p r : Price) (t : Try Next) (tab : Table) → done (stops r) ≡ t → tab ≡ sent p t tab
unfolding sent send
stops-sent p r t tab e = ap (λ (x : Try Next). sent p x tab) e

pub goes-sent : (p r : Price) (u : State) (x : Arrival) (t : Try Next) (tab : Table) → done (goes r u) ≡ t → arrival u (sum p r) ≡ x → arrive x tab ≡ sent p t tab
unfolding sent send
goes-sent p r u x t tab e g = ap (λ (z : Arrival). arrive z tab) (sym g) ∙ ap (λ (y : Try Next). sent p y tab) e

pub opens-sent : (p r r' : Price) (u v : State) (x y : Arrival) (t : Try Next) (tab : Table) → done (opens r u r' v) ≡ t → arrival u (sum p r) ≡ x → arrival v (sum p r') ≡ y
    → arrive x (arrive y tab) ≡ sent p t tab
unfolding sent send
opens-sent p r r' u v x y t tab e g h = ap₂ (λ (z z' : Arrival). arrive z (arrive z' tab)) (sym g) (sym h) ∙ ap (λ (y : Try Next). sent p y tab) e

-- a pass that moved onto a table, by another name of it
pub moved-onto : {ns : List ℕ} {first n j : ℕ} {v : (Table → Report → Verdict) → Verdict} {onto tab : Table} {rs : List ℕ} {r : Pass} → tab ≡ onto → (q : Report) → r.found ≡ accepted_as q
    → ((rest : Table → Report → Verdict) → v rest ≡ rest tab q) → Agrees ns first n j tab rs r.here r.way → Moved ns first n j v onto rs r
moved-onto {ns} {first} {n} {j} {v} {rs = rs} {r = r} e q f k a = subst (λ (t : Table). Moved ns first n j v t rs r) e (moved q f k a)

-- ---- what is kept beside it

pub whole-at : (ns : List ℕ) (bl : List Cell) (s : code.State) → (whole ns bl s).at ≡ s.at
unfolding whole reblock
whole-at ns bl s = refl

-- the ways of the step are marked, by the code's answer x
pub carried-kept : (first j : ℕ) (ks ks' : List ℕ) (ns : List ℕ) (w : Way) (at h : ℕ) (x : leads-to.Next) (bl : List Cell) (s : code.State) (f : Cell → Try Next) (u : Cell)
    → ((o : Origins) (p : Price) (s t : State) → p.cycles ≡ w.cycles → s.at ≡ first + j → height s ≡ h → t.at ≡ at → Keeps first ks o → Keeps first ks' (marked p s (of_next x t) o))
    → w.state.at ≡ first + j → h ≡ height (whole ns w.blocks w.state) → s.at ≡ at → u ≡ unknown → of_next x (whole ns bl s) ≡ f u
    → (o : Origins) → Keeps first ks o → Keeps first ks' (marked (spent_of w) (whole ns w.blocks w.state) (f unknown) o)
carried-kept first j ks ks' ns w at h x bl s f u m a d q g e o k =
    subst (λ (y : Try Next). Keeps first ks' (marked (spent_of w) (whole ns w.blocks w.state) y o)) (e ∙ ap f g)
    (m o (spent_of w) (whole ns w.blocks w.state) (whole ns bl s) refl (whole-at ns w.blocks w.state ∙ a) (sym d) (whole-at ns bl s ∙ q) k)
