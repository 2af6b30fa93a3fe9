-- `text_decimals::put_decimal` meets its contract, by recursion on the number: the digits before the last one are those of n / 10. The measure
-- is n. Assumes nothing.
use Prim.Native.Nat.{ℕ, ◌+◌, ◌<◌}
use mathlib.Core.Path.{sym, ap, ◌∙◌}
use mathlib.Core.List.{[], ◌∷◌}
use native.Mathlib.Omega.{arith}
use lib.ListN.{length-set}
use lib.Seq.{sets-eq}
use borrow.Author.Rules.{rules}
use borrow.Fn.Kinds.{In}
use borrow.Fn.PlainCycle.{Measures, is, falls, and}
use Rattle.text_decimals.specs.Memory.{over}
use Rattle.text_decimals.proofs.DecimalLaws.{decimal-one, decimal-length-one, decimal-length-more}
use Rattle.text_decimals.proofs.MemoryLaws.{over-decimal}
use Rattle.text_decimals.proofs.put_decimal.Reads as put-decimal
use Rattle.text_decimals.proofs.put_decimal.Kinds as put-decimal-kinds
use Rattle.text_decimals.proofs.+put_decimal.Lts-put_decimal as put-decimal-lts
use Rattle.text_decimals.proofs.+put_decimal.{statement}
use Rattle.text_decimals.proofs.+put_decimal.Tie.{close}

abbrev μ-put-decimal : Measures 1 put-decimal-kinds.ps ℕ
μ-put-decimal κs a = a.1.1.0

abbrev put-decimal-at : ℕ → In 1 put-decimal-kinds.ps
put-decimal-at t =
    and 1 put-decimal-kinds.ps (is 1 put-decimal-kinds.ps μ-put-decimal t) put-decimal.Pre

abbrev put-decimal-below : ℕ → In 1 put-decimal-kinds.ps
put-decimal-below t =
    and 1 put-decimal-kinds.ps (falls 1 put-decimal-kinds.ps ◌<◌ μ-put-decimal t) put-decimal.Pre

put-decimal-cast-out : (t : ℕ) → put-decimal-lts.Need-overflow_cast-out (
  put-decimal-below t,
  put-decimal.Post,
) (put-decimal-at t) put-decimal.Post
put-decimal-cast-out t c = search rules

put-decimal-add-out : (t : ℕ) → put-decimal-lts.Need-overflow_add-out (
  put-decimal-below t,
  put-decimal.Post,
) (put-decimal-at t) put-decimal.Post
put-decimal-add-out t c = search rules

put-decimal-slice-write-out : (t : ℕ) → put-decimal-lts.Need-bounds-out-at (
  put-decimal-below t,
  put-decimal.Post,
) (put-decimal-at t) put-decimal.Post
put-decimal-slice-write-out t c = omega (arith, decimal-length-one c.args.n c.if-n-lt10.true)

put-decimal-add-result : (t : ℕ) → put-decimal-lts.Need-overflow_add-result (
  put-decimal-below t,
  put-decimal.Post,
) (put-decimal-at t) put-decimal.Post
put-decimal-add-result t c = omega (arith, decimal-length-one c.args.n c.if-n-lt10.true)

put-decimal-same-length : (t : ℕ) → put-decimal-lts.Need-shape_of-out-then-n-lt10 (
  put-decimal-below t,
  put-decimal.Post,
) (put-decimal-at t) put-decimal.Post
put-decimal-same-length t c = search rules

put-decimal-returns : (t : ℕ) → put-decimal-lts.Need-returns-then-n-lt10 (
  put-decimal-below t,
  put-decimal.Post,
) (put-decimal-at t) put-decimal.Post
put-decimal-returns t c =
    let a = c.args in
    let e = decimal-one a.n c.if-n-lt10.true in
    let l = decimal-length-one a.n c.if-n-lt10.true in
    (omega arith, sets-eq ((48 + a.n) ∷ []) a.out.now a.at (omega arith) ∙ ap (over a.out.now a.at) (sym e))

put-decimal-put-decimal-requires : (t : ℕ) → put-decimal-lts.Need-put_decimal-e-requires (
  put-decimal-below t,
  put-decimal.Post,
) (put-decimal-at t) put-decimal.Post
put-decimal-put-decimal-requires t c κs =
    let s = c in
    let l = decimal-length-more s.args.n c.if-n-lt10.false in
    (omega arith, omega arith)

put-decimal-cast-out-2 : (t : ℕ) → put-decimal-lts.Need-overflow_cast-out-2 (
  put-decimal-below t,
  put-decimal.Post,
) (put-decimal-at t) put-decimal.Post
put-decimal-cast-out-2 t c = search rules

put-decimal-add-out-2 : (t : ℕ) → put-decimal-lts.Need-overflow_add-out-2 (
  put-decimal-below t,
  put-decimal.Post,
) (put-decimal-at t) put-decimal.Post
put-decimal-add-out-2 t c = search rules

put-decimal-slice-write-out-2 : (t : ℕ) → put-decimal-lts.Need-bounds-out-e (
  put-decimal-below t,
  put-decimal.Post,
) (put-decimal-at t) put-decimal.Post
put-decimal-slice-write-out-2 t c = omega (arith, decimal-length-more c.args.n c.if-n-lt10.false)

put-decimal-add-result-2 : (t : ℕ) → put-decimal-lts.Need-overflow_add-result-2 (
  put-decimal-below t,
  put-decimal.Post,
) (put-decimal-at t) put-decimal.Post
put-decimal-add-result-2 t c = omega (arith, decimal-length-more c.args.n c.if-n-lt10.false)

put-decimal-same-length-2 : (t : ℕ) → put-decimal-lts.Need-shape_of-out (
  put-decimal-below t,
  put-decimal.Post,
) (put-decimal-at t) put-decimal.Post
put-decimal-same-length-2 t c = simp length-set c.put_decimal-e.auto.out

put-decimal-returns-2 : (t : ℕ) → put-decimal-lts.Need-returns (
  put-decimal-below t,
  put-decimal.Post,
) (put-decimal-at t) put-decimal.Post
put-decimal-returns-2 t c =
    let p = c in
    let s = p in
    over-decimal s.args.out.now _ s.args.at _ s.args.n p.if-n-lt10.false s.requires.1 p.put_decimal-e.ensures.0 p.put_decimal-e.ensures.1

pub +put_decimal_spec : {M : Type 1} → statement M
+put_decimal_spec = close μ-put-decimal λ t. put-decimal-lts.spec (
  put-decimal-below t,
  put-decimal.Post,
)
    (put-decimal-at t)
    put-decimal.Post
    (put-decimal-cast-out t)
    (put-decimal-add-out t)
    (put-decimal-slice-write-out t)
    (put-decimal-add-result t)
    (put-decimal-same-length t)
    (put-decimal-returns t)
    (put-decimal-put-decimal-requires t)
    (put-decimal-cast-out-2 t)
    (put-decimal-add-out-2 t)
    (put-decimal-slice-write-out-2 t)
    (put-decimal-add-result-2 t)
    (put-decimal-same-length-2 t)
    (put-decimal-returns-2 t)
