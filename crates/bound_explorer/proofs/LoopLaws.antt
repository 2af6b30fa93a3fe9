-- The explorer's loop, apart from its code: what holds at each turn, and what each way out of a turn shows. Over any action on states.
-- Assumes nothing.
use Rattle.std.specs.Prelude.{Err, Ok}
use mathlib.Core.Path.{◌≡◌, refl, sym, subst, ◌∙◌, ap}
use mathlib.Core.Bool.{Bool, true, false, cond}
use mathlib.Core.List.{List}
use Prim.Native.Nat.{ℕ, suc, ◌+◌, ◌-◌, ◌*◌, max, ◌≤◌, ◌<◌}
use native.Mathlib.Omega.{arith}
use lib.Dec.{leb}
use borrow.Author.Tests.{leb-true, leb-false, le-leb, lt-leb}
use Rattle.refusals.specs.declared.Refusal.{Refusal}
use Rattle.cells.specs.Try.{Try, stuck, done}
use Rattle.machine.specs.Machine.{State, height, Price, Next, stops, goes, opens, with_extra}
use Rattle.bound_theory.specs.Tree.{Decision, worse, Report, accepted, refused, explore}
use Rattle.bound_theory.specs.Tree as bounds
use Rattle.bound_theory.proofs.ExploreLaws.{before, join, joined, both_ways, explore-spent, explore-stuck, explore-stops, explore-goes, explore-over, explore-opens}
use Rattle.refusals.specs.declared.Refusal.TheVariants.{Stuck, Openings, Spent}
use Rattle.bound_figures.specs.declared.Found.{Found}
use Rattle.bound_figures.specs.declared.Tally.{Tally}
use Rattle.bound_figures.specs.HeldFigures.{encode, accepted_as, Shows, zero_tally, more_of, jumped_of, decided_of, joined_of, finished_of, refused_as}
use Rattle.bound_explorer.proofs.UsedLaws.{used, used-spent, used-stuck, used-stops, used-goes, used_over, used-first, used-both}

-- n steps of a tally before what follows
unfoldable pub shift : Tally → ℕ → bounds.Verdict → bounds.Verdict
shift t n (refused x) = refused x
shift t n (accepted q) = accepted (record { cycles = t.cycles + q.cycles; words = t.words + q.words; depth = max t.depth q.depth; steps = n + q.steps; path = q.path })

reports : (q r : Report) → q.cycles ≡ r.cycles → q.words ≡ r.words → q.depth ≡ r.depth → q.steps ≡ r.steps → q.path ≡ r.path → accepted q ≡ accepted r
reports q r a b c d e = λ i. accepted (record { cycles = a i; words = b i; depth = c i; steps = d i; path = e i })

shift_zero : (budget : ℕ) (v : bounds.Verdict) → shift (zero_tally budget) 0 v ≡ v
unfolding shift
shift_zero budget (refused x) = refl
shift_zero budget (accepted q) = reports _ q (omega arith) (omega arith) (omega arith) (omega arith) refl

shift-before : (t : Tally) (n : ℕ) (s : State) (p : Price) (v : bounds.Verdict) → shift t n (before s p v) ≡ shift (more_of t p (height s)) (suc n) v
unfolding shift before more_of
shift-before t n s p (refused x) = refl
shift-before t n s p (accepted q) = reports _ _ (omega arith) (omega arith) (omega arith) (omega arith) refl

-- the answer after the tally, for an accepted way
shift-accepted : (t : Tally) (n : ℕ) (q : Report) (v : bounds.Verdict) → v ≡ shift t n (accepted q) →
    (r : Found) → r ≡ accepted_as (record { cycles = t.cycles + q.cycles; words = t.words + q.words; depth = max t.depth q.depth; steps = n + q.steps; path = q.path }) → Shows r v
unfolding shift
shift-accepted t n q v e r f = subst (Shows r) (sym e) f

shift-refused : (t : Tally) (n : ℕ) (x : Refusal) (v : bounds.Verdict) → v ≡ shift t n (refused x) → (r : Found) → r.verdict ≡ Err x → Shows r v
unfolding shift
shift-refused t n x v e r f = subst (Shows r) (sym e) f

-- the larger cost
worse-path : (b : Bool) (ns ts : List Decision) → encode (worse b ns ts) ≡ cond b (2 * encode ts + 1) (2 * encode ns)
unfolding encode worse
worse-path true ns ts = refl
worse-path false ns ts = refl

-- the same after one price p, with the extra x on the second
leb-after : (p x k l : ℕ) → leb k (x + l) ≡ leb (p + k) (p + x + l)
leb-after p x k l = go (leb k (x + l)) refl
  where
    go : (b : Bool) → leb k (x + l) ≡ b → leb k (x + l) ≡ leb (p + k) (p + x + l)
    go true e = let h = leb-true k (x + l) e in e ∙ sym (le-leb (p + k) (p + x + l) (omega arith))
    go false e = let h = leb-false k (x + l) e in e ∙ sym (lt-leb (p + k) (p + x + l) (omega arith))

found-equal : (f g : Found) → f.verdict ≡ g.verdict → f.used ≡ g.used → f.cycles ≡ g.cycles → f.words ≡ g.words → f.depth ≡ g.depth → f.path ≡ g.path → f ≡ g
found-equal f g v u c w d p = λ i. record { verdict = v i; used = u i; cycles = c i; words = w i; depth = d i; path = p i }

-- the two ways of a branch, both accepted, after n steps of a tally
joined-found : (t : Tally) (n : ℕ) (s : State) (p : Price) (x : ℕ) (r r' : Report) (f g : Found) → f ≡ accepted_as r → g ≡ accepted_as r' →
    joined_of (more_of t p (height s)) (n + 1) f x g
    ≡ accepted_as (record {
      cycles = t.cycles + (joined s p r (with_extra x p) r').cycles;
      words = t.words + (joined s p r (with_extra x p) r').words;
      depth = max t.depth (joined s p r (with_extra x p) r').depth;
      steps = n + (joined s p r (with_extra x p) r').steps;
      path = (joined s p r (with_extra x p) r').path;
    })
unfolding joined_of more_of accepted_as joined decided_of with_extra
joined-found t n s p x r r' f g e d =
    rw (e, d)
    (found-equal _ _ refl (omega arith) (omega arith) (omega arith) (omega arith)
    (ap (λ b. cond b (2 * encode r'.path + 1) (2 * encode r.path)) (leb-after p.cycles x r.cycles r'.cycles)
    ∙ sym (worse-path (leb (p.cycles + r.cycles) (p.cycles + x + r'.cycles)) r.path r'.path)))

-- what is left after one step more, and after the extra
pub left-more : (t t' : Tally) (p : Price) (h : ℕ) → t' ≡ more_of t p h → t'.left ≡ t.left - 1
unfolding more_of
left-more t t' p h e = ap (λ (x : Tally). x.left) e

pub left-jumped : (t t' : Tally) (x : ℕ) → t' ≡ jumped_of t x → t'.left ≡ t.left
unfolding jumped_of
left-jumped t t' x e = ap (λ (y : Tally). y.left) e

-- a step at a price, and then the extra
pub jumped-more : (t : Tally) (p : Price) (x h : ℕ) → jumped_of (more_of t p h) x ≡ more_of t (with_extra x p) h
unfolding jumped_of more_of with_extra
jumped-more t p x h = let e : t.cycles + p.cycles + x ≡ t.cycles + (p.cycles + x) = omega arith in rw e

-- an answer that is accepted shows a report, and one that is not a refusal

pub accepted-shows : (f : Found) (v : bounds.Verdict) → Shows f v → f.verdict ≡ Ok tt → (q : Report) × (v ≡ accepted q) × (f ≡ accepted_as q)
accepted-shows f (accepted q) h e = (q, refl, h)
accepted-shows f (refused x) h e = let g : Ok tt ≡ Err x = sym e ∙ h in let z : ◌≡◌ {A = ℕ} 0 1 = cc in absurd (omega arith)

refused-shows : (f : Found) (v : bounds.Verdict) (x : Refusal) → Shows f v → f.verdict ≡ Err x → v ≡ refused x
unfolding accepted_as
refused-shows f (accepted q) x h e = let g : Ok tt ≡ Err x = sym (ap (λ r. r.verdict) h) ∙ e in let z : ◌≡◌ {A = ℕ} 0 1 = cc in absurd (omega arith)
refused-shows f (refused y) x h e = let g : Err y ≡ Err x = sym h ∙ e in cc

module _ (act : State → Try Next) (o budget : ℕ) (start : State) where
  -- the tally, and then what is left, come to what the whole comes to
  pub record Inv (s : State) (left : ℕ) (t : Tally) : Type 0 where
    pub total : explore act o budget start ≡ shift t (budget - left) (explore act o left s)
    pub spent : used act o budget start ≡ (budget - left) + used act o left s
    pub within : left ≤ budget

  -- an answer shows the whole verdict, and has the steps walked
  pub record Shown (r : Found) : Type 0 where
    pub shows : Shows r (explore act o budget start)
    pub counts : r.used ≡ used act o budget start

  pub begins : Inv start budget (zero_tally budget)
  begins =
      let e : budget - budget ≡ 0 = omega arith in
      record { total = sym (ap (λ n. shift (zero_tally budget) n (explore act o budget start)) e ∙ shift_zero budget (explore act o budget start)); spent = omega arith; within = omega arith }

  pub spent-shown : (s : State) (left : ℕ) (t : Tally) → Inv s left t → left ≤ 0 → Shown (refused_as (Spent s.at) budget)
  unfolding refused_as
  spent-shown s left t i h =
      let z : left ≡ 0 = omega arith in
      record {
        shows = shift-refused t (budget - left) _ (explore act o budget start) (i.total ∙ ap (shift t (budget - left)) (ap (λ b. explore act o b s) z ∙ explore-spent act o s)) _ refl;
        counts = let k = i.spent ∙ ap (λ b. (budget - left) + used act o b s) z in let l = used-spent act o s in omega (arith, k, l, i.within);
      }

  module _ (s : State) (left : ℕ) (t : Tally) (i : Inv s left t) (h : 0 < left) where
    -- one more than is left after the step
    one : suc (left - 1) ≡ left
    one = omega arith

    -- the verdict and the steps from s, by the laws for a budget of one more
    verdict-from : {v : bounds.Verdict} → explore act o (suc (left - 1)) s ≡ v → explore act o budget start ≡ shift t (budget - left) v
    verdict-from e = i.total ∙ ap (shift t (budget - left)) (ap (λ b. explore act o b s) (sym one) ∙ e)

    used-from : {k : ℕ} → used act o (suc (left - 1)) s ≡ k → used act o budget start ≡ (budget - left) + k
    used-from e = i.spent ∙ ap (λ k. (budget - left) + k) (ap (λ b. used act o b s) (sym one) ∙ e)

    pub again : (p : Price) (u : State) → act s ≡ done (goes p u) → Inv u (left - 1) (more_of t p (height s))
    again p u e =
        let g : suc (budget - left) ≡ budget - (left - 1) = omega (arith, i.within) in
        record {
          total = verdict-from (explore-goes act (left - 1) o s u p e) ∙ shift-before t (budget - left) s p (explore act o (left - 1) u) ∙ ap (λ n. shift (more_of t p (height s)) n (explore act o (left - 1) u)) g;
          spent = let k = used-from (used-goes act (left - 1) o s u p e) in omega (arith, k, g);
          within = omega (arith, i.within);
        }

    pub halts : (p : Price) → act s ≡ done (stops p) → Shown (finished_of (more_of t p (height s)) (budget - left + 1))
    unfolding finished_of more_of accepted_as encode
    halts p e = record {
      shows = shift-accepted t (budget - left) _ (explore act o budget start) (verdict-from (explore-stops act (left - 1) o s p e)) _ refl;
      counts = let k = used-from (used-stops act (left - 1) o s p e) in omega (arith, k);
    }

    pub stuck-shown : act s ≡ stuck → Shown (refused_as (Stuck s.at) (budget - left + 1))
    unfolding refused_as
    stuck-shown e = record {
      shows = shift-refused t (budget - left) _ (explore act o budget start) (verdict-from (explore-stuck act (left - 1) o s e)) _ refl;
      counts = let k = used-from (used-stuck act (left - 1) o s e) in omega (arith, k);
    }

    module _ (p q : Price) (u v : State) (e : act s ≡ done (opens p u q v)) where
      pub over-shown : o ≡ 0 → Shown (refused_as (Openings s.at) (budget - left + 1))
      unfolding refused_as
      over-shown z = record {
        shows = shift-refused t (budget - left) _ (explore act o budget start) (verdict-from (ap (λ k. explore act k (suc (left - 1)) s) z ∙ explore-over act (left - 1) s u v p q e)) _ refl;
        counts = let k = used-from (ap (λ k. used act k (suc (left - 1)) s) z ∙ used_over act (left - 1) s u v p q e) in omega (arith, k);
      }

      -- the way not taken, explored with one opening less
      module _ (o' : ℕ) (lower : o ≡ suc o') (f : Found) (shows : Shows f (explore act o' (left - 1) u)) (counts : f.used ≡ used act o' (left - 1) u) where
        opened : explore act o (suc (left - 1)) s ≡ both_ways s p (explore act o' (left - 1) u) q (λ k. explore act o' (left - 1 - k) v)
        opened = ap (λ k. explore act k (suc (left - 1)) s) lower ∙ explore-opens act (left - 1) o' s u v p q e

        pub first-fails : (x : Refusal) → f.verdict ≡ Err x → Shown (refused_as x (budget - left + 1 + f.used))
        unfolding refused_as both_ways
        first-fails x refuses =
            let g = refused-shows f (explore act o' (left - 1) u) x shows refuses in
            record {
              shows = shift-refused t (budget - left) x (explore act o budget start) (verdict-from (opened ∙ ap (λ w. both_ways s p w q (λ k. explore act o' (left - 1 - k) v)) g)) _ refl;
              counts = let k = used-from (ap (λ k. used act k (suc (left - 1)) s) lower ∙ used-first act (left - 1) o' s u v p q x e g) in omega (arith, k, counts);
            }

        -- the way taken, explored with what the first left of the budget
        module _ (Done-first : f.verdict ≡ Ok tt) (g : Found) (shows' : Shows g (explore act o' (left - 1 - f.used) v)) (counts' : g.used ≡ used act o' (left - 1 - f.used) v) where
          first : (r : Report) × (explore act o' (left - 1) u ≡ accepted r) × (f ≡ accepted_as r)
          first = accepted-shows f (explore act o' (left - 1) u) shows Done-first

          same-used : first.0.steps ≡ f.used
          unfolding accepted_as
          same-used = sym (ap (λ r. r.used) first.2)

          opened-second : explore act o (suc (left - 1)) s ≡ join s p first.0 q (explore act o' (left - 1 - f.used) v)
          unfolding both_ways
          opened-second =
              opened ∙ ap (λ w. both_ways s p w q (λ k. explore act o' (left - 1 - k) v)) first.1
              ∙ ap (λ k. join s p first.0 q (explore act o' (left - 1 - k) v)) same-used

          used-second : used act o budget start ≡ (budget - left) + suc (f.used + g.used)
          used-second =
              used-from (ap (λ k. used act k (suc (left - 1)) s) lower ∙ used-both act (left - 1) o' s u v p q first.0 e first.1
              ∙ ap (λ k. suc (k + used act o' (left - 1 - k) v)) same-used ∙ ap (λ k. suc (f.used + k)) (sym counts'))

          pub second-fails : (x : Refusal) → g.verdict ≡ Err x → Shown (refused_as x (budget - left + 1 + f.used + g.used))
          unfolding refused_as join
          second-fails x refuses =
              let w = refused-shows g (explore act o' (left - 1 - f.used) v) x shows' refuses in
              record {
                shows = shift-refused t (budget - left) x (explore act o budget start) (verdict-from (opened-second ∙ ap (join s p first.0 q) w)) _ refl;
                counts = omega (arith, used-second);
              }

          pub both-done : (x : ℕ) → with_extra x p ≡ q → g.verdict ≡ Ok tt → Shown (joined_of (more_of t p (height s)) (budget - left + 1) f x g)
          unfolding join
          both-done x same done-second =
              let (r', w, d) = accepted-shows g (explore act o' (left - 1 - f.used) v) shows' done-second in
              record {
                shows =
                    shift-accepted t (budget - left) (joined s p first.0 (with_extra x p) r') (explore act o budget start)
                    (verdict-from (opened-second ∙ ap (join s p first.0 q) w ∙ ap (λ q. accepted (joined s p first.0 q r')) (sym same))) _
                    (joined-found t (budget - left) s p x first.0 r' f g first.2 d);
                counts = counted;
              }
            where
              counted : (joined_of (more_of t p (height s)) (budget - left + 1) f x g).used ≡ used act o budget start
              counted = unfold joined_of in omega (arith, used-second)
