-- `machine_state::slot_of` meets its contract.
use mathlib.Core.Path.{◌≡◌, sym, ◌∙◌}
use mathlib.Core.List.{List}
use Prim.Native.Nat.{ℕ, ◌+◌, ◌*◌, ◌≤◌, ◌<◌}
use native.Mathlib.Omega.{arith}
use lib.ListN.{length, get_or}
use borrow.Author.Tests.{lt-ltb, le-ltb}
use Rattle.cells.specs.Try.{stuck, done, ◌>>=◌}
use Rattle.cells.specs.declared.Cell.{Cell}
use Rattle.cells.specs.Cells.{block}
use Rattle.machine_state.specs.HeldProgram.{sizes_of}
use Rattle.machine_state.specs.HeldState.{slot}
use Rattle.machine_state.proofs.slot_of.Goals as goal

module _ (ns : List ℕ) (a : Cell) (n : ℕ) where
  no-handle : block a ≡ stuck → stuck ≡ slot ns a n
  unfolding slot ◌>>=◌
  no-handle e = rw e

  module _ (k : ℕ) (e : block a ≡ done k) where
    no_block : length ns ≤ k → stuck ≡ slot ns a n
    unfolding slot ◌>>=◌
    no_block h = rw (e, le-ltb k (length ns) h)

    no_field : k < length ns → get_or ns k 0 ≤ n → stuck ≡ slot ns a n
    unfolding slot ◌>>=◌
    no_field h g = rw (e, lt-ltb k (length ns) h, le-ltb n (get_or ns k 0) g)

    field : k < length ns → n < get_or ns k 0 → done (k * 16 + n) ≡ slot ns a n
    unfolding slot ◌>>=◌
    field h g = rw (e, lt-ltb k (length ns) h, lt-ltb n (get_or ns k 0) g)

pub returns-in_default : goal.returns-in_default
returns-in_default c = no-handle _ _ _ (sym c.block.ensures ∙ c.in_default.is)

pub returns-then-count_blocks-k : goal.returns-then-count_blocks-k
returns-then-count_blocks-k c =
    no_block (sizes_of c.args.code.now) _ _ c.in-Some.handled (sym c.block.ensures ∙ c.in-Some.is) (omega (arith, c.count_blocks.ensures, c.if-count_blocks-k.true))

pub size_of-requires : goal.size_of-requires
size_of-requires c = (c.requires, omega (arith, c.count_blocks.ensures, c.if-count_blocks-k.false))

pub returns-then-size_of-n : goal.returns-then-size_of-n
returns-then-size_of-n c =
    no_field (sizes_of c.args.code.now) _ _ c.in-Some.handled (sym c.block.ensures ∙ c.in-Some.is) (omega (arith, c.count_blocks.ensures, c.if-count_blocks-k.false)) (omega (arith, c.size_of.ensures, c.if-size_of-n.true))

pub overflow_add-result : goal.overflow_add-result
overflow_add-result c = omega (arith, c.size_of.ensures, c.if-size_of-n.false, c.requires.sizes c.in-Some.handled)

pub returns : goal.returns
returns c =
    field (sizes_of c.args.code.now) _ _ c.in-Some.handled (sym c.block.ensures ∙ c.in-Some.is) (omega (arith, c.count_blocks.ensures, c.if-count_blocks-k.false)) (omega (arith, c.size_of.ensures, c.if-size_of-n.false))
