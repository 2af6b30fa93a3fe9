-- The code's state by its methods, and the same with its blocks: what a change of the struct is to the definition's state. Assumes nothing.
use mathlib.Core.Path.{◌≡◌, refl, ap, ◌∙◌}
use mathlib.Core.List.{List}
use Prim.Native.Nat.{ℕ, ◌+◌, ◌-◌, ◌≤◌, ◌<◌}
use native.Mathlib.Omega.{arith}
use lib.IntN.{pos}
use lib.ListN.{length, set, length-set, length-drop}
use lib.Seq.{drop-drop, drop-set-add}
use borrow.Author.Tests.{lt-ltb}
use Rattle.cells.specs.Try.{done, ◌>>=◌}
use Rattle.cells.specs.declared.Cell.{Cell}
use Rattle.cells.specs.Cells.{exactly}
use Rattle.machine.specs.Machine.{stack_limit, height, push, pop, store, load, restack, reblock, advance, jump}
use Rattle.machine.proofs.ListLaws.{put_in, without_in}
use Rattle.machine.proofs.ApartLaws.{push-reblock, pop-reblock, store-reblock}
use Rattle.machine_state.specs.declared.State as code
use Rattle.machine_state.specs.HeldState.{view, WellFormed, blocks_of, whole}
use Rattle.machine_state.proofs.Stack.{drop-push}

-- ---- the struct after a method

-- with the accumulator in the last unused place
abbrev pub pushed : code.State → code.State
pushed s = record { at = s.at; accu = s.accu; free = s.free - 1; stack = set s.stack (s.free - 1) s.accu }

-- with the accumulator in the place of entry n, and 0 in the accumulator
abbrev pub stored : ℕ → code.State → code.State
stored n s = record { at = s.at; accu = exactly (pos 0); free = s.free; stack = set s.stack (s.free + n) s.accu }

-- with n more unused places
abbrev pub popped : ℕ → code.State → code.State
popped n s = record { at = s.at; accu = s.accu; free = s.free + n; stack = s.stack }

-- at another address
abbrev pub placed : ℕ → code.State → code.State
placed a s = record { at = a; accu = s.accu; free = s.free; stack = s.stack }

module _ (s : code.State) (formed : WellFormed s) where
  -- the height of a stack that lies at the end of its array
  pub height-is : length (view s).stack ≡ stack_limit - s.free
  height-is = length-drop s.free s.stack ∙ ap (λ n. n - s.free) formed.places

  pub push-is : 0 < s.free → done (view (pushed s)) ≡ push (view s)
  unfolding push height restack
  push-is h =
      let low : length (view s).stack < stack_limit = omega (arith, height-is, formed.free) in
      rw (lt-ltb (length (view s).stack) stack_limit low, drop-push s.stack s.free s.accu h (omega (arith, formed.free, formed.places))) refl

  pub push-formed : 0 < s.free → WellFormed (pushed s)
  push-formed h = record { free = omega (arith, formed.free); places = length-set s.stack _ _ ∙ formed.places }

  pub pop-is : (n : ℕ) → s.free + n ≤ stack_limit → done (view (popped n s)) ≡ pop n (view s)
  unfolding pop restack ◌>>=◌
  pop-is n h =
      rw (without_in n (view s).stack (omega (arith, height-is)), drop-drop n s.free s.stack) refl

  pub store_is : (n : ℕ) → s.free + n < stack_limit → done (view (stored n s)) ≡ store n (view s)
  unfolding store load restack ◌>>=◌
  store_is n h =
      rw (put_in n s.accu (view s).stack (omega (arith, height-is)), drop-set-add s.free s.stack n s.accu) refl

  pub store-formed : (n : ℕ) → WellFormed (stored n s)
  store-formed n = record { free = formed.free; places = length-set s.stack _ _ ∙ formed.places }

-- ---- the same with the blocks

module _ (ns : List ℕ) (fs : List Cell) (s t : code.State) where
  pub push-whole : done (view t) ≡ push (view s) → push (whole ns fs s) ≡ done (whole ns fs t)
  unfolding whole
  push-whole e = push-reblock (blocks_of ns fs) (view s) (view t) e

  pub pop-whole : (n : ℕ) → done (view t) ≡ pop n (view s) → pop n (whole ns fs s) ≡ done (whole ns fs t)
  unfolding whole
  pop-whole n e = pop-reblock (blocks_of ns fs) (view s) (view t) n e

  pub store-whole : (n : ℕ) → done (view t) ≡ store n (view s) → store n (whole ns fs s) ≡ done (whole ns fs t)
  unfolding whole
  store-whole n e = store-reblock (blocks_of ns fs) (view s) (view t) n e

  pub load-whole : (c : Cell) → view t ≡ load c (view s) → whole ns fs t ≡ load c (whole ns fs s)
  unfolding whole reblock load
  load-whole c e = ap (reblock (blocks_of ns fs)) e

  pub jump-whole : (a : ℕ) → view t ≡ jump a (view s) → whole ns fs t ≡ jump a (whole ns fs s)
  unfolding whole reblock jump
  jump-whole a e = ap (reblock (blocks_of ns fs)) e

  pub advance-whole : view t ≡ advance (view s) → whole ns fs t ≡ advance (whole ns fs s)
  unfolding whole reblock advance jump
  advance-whole e = ap (reblock (blocks_of ns fs)) e
