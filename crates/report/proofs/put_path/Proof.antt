-- `report::put_path` meets its contract. The loop's invariant: the letters that are left, written from e on, come to the path
-- written from `at` on. The measure is the number that is left. Assumes nothing.
use Prim.Native.Nat.{◌+◌}
use mathlib.Core.Path.{sym, ap, ◌∙◌}
use native.Mathlib.Omega.{arith}
use lib.ListN.{length}
use borrow.Author.Rules.{rules}
use Rattle.text_decimals.specs.Memory.{over}
use Rattle.report.proofs.PathLaws.{Continues, path-none, path-starts, path_room, path-next, path-ends}
use Rattle.report.proofs.put_path.Statement.{statement}
use Rattle.report.proofs.put_path.Tie as tie

abbrev invariant-loop-rest : tie.invariant-loop-rest
invariant-loop-rest out₀ at path rest₀ e₀ out rest e = Continues out₀ out at e path rest

abbrev decreases-loop-rest : tie.decreases-loop-rest
decreases-loop-rest out₀ at path rest₀ e₀ out rest e = rest

put-requires : tie.Need-put-requires invariant-loop-rest decreases-loop-rest
put-requires c κs =
    let s = c in
    omega (arith, ap length (path-none s.args.path c.if-path-lt2.true))

returns : tie.Need-returns-then-path-lt2 invariant-loop-rest decreases-loop-rest
returns c =
    let a = c.args in
    let z = sym (path-none a.path c.if-path-lt2.true) in
    let p = c.put.ensures in
    (p.0 ∙ ap (λ t. a.at + length t) z, p.1 ∙ ap (over a.out.now a.at) z)

loop-holds : tie.Need-loop-rest-init invariant-loop-rest decreases-loop-rest
loop-holds c =
    let s = c in
    path-starts s.args.out.now s.args.at s.args.path c.if-path-lt2.false s.requires

slice-write-out : tie.Need-bounds-out-e invariant-loop-rest decreases-loop-rest
slice-write-out c = path_room c.loop-rest.invariant c.loop-rest-test.true

add-e : tie.Need-overflow_add-e invariant-loop-rest decreases-loop-rest
add-e c = omega (arith, path_room c.loop-rest.invariant c.loop-rest-test.true)

loop-again : tie.Need-loop-rest-preserved invariant-loop-rest decreases-loop-rest
loop-again c = path-next c.loop-rest.invariant c.loop-rest-test.true _ c.letter.ensures

same-length-2 : tie.Need-shape_of-out invariant-loop-rest decreases-loop-rest
same-length-2 c = c.loop-rest.invariant.long

returns-2 : tie.Need-returns invariant-loop-rest decreases-loop-rest
returns-2 c = path-ends c.loop-rest.invariant c.if-path-lt2.false (omega arith)

pub put_path_spec : {M : Type 1} → statement M
put_path_spec =
    tie.close
    (tie.spec
    invariant-loop-rest
    decreases-loop-rest
    put-requires
    (λ c. search rules)
    returns
    loop-holds
    (λ c κs. search rules)
    slice-write-out
    add-e
    (λ c. search rules)
    loop-again
    same-length-2
    returns-2)
