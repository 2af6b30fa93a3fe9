-- What a read gave follows what was read before it.
use Rattle.std.proofs.Common.{rules, sym, subst}
use Rattle.std.specs.Io.KnownBytes.{Consumes}
use Rattle.std.proofs.KnownBytes.{Consumes-trans}
use Rattle.console.proofs.ReadLaws.{take-put}
use Rattle.console.proofs.read_from.Goals as goal

pub loop-n-preserved : goal.loop-n-preserved
loop-n-preserved g c = record {
  fits = search rules;
  natural = search rules;
  consumed = subst (Consumes _ _) (sym (take-put _ _ _ _ _ c.loop-n.invariant.fits c.in-Ok.ensures.bound.0)) (Consumes-trans _ _ _ _ _ c.loop-n.invariant.consumed c.in-Ok.ensures.bytes.0);
}
