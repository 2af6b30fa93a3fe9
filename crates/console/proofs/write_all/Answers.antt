-- What a write took follows what was written before it.
use Rattle.std.proofs.Common.{rules, sym, subst}
use Rattle.std.specs.Io.KnownBytes.{Appends}
use Rattle.std.proofs.KnownBytes.{Appends-trans}
use Rattle.console.proofs.WriteLaws.{take-more}
use Rattle.console.proofs.write_all.Goals as goal

pub loop-n-preserved : goal.loop-n-preserved
loop-n-preserved g c = record {
  within = search rules;
  written = subst (Appends _ _) (sym (take-more _ _ _)) (Appends-trans _ _ _ _ _ c.loop-n.invariant.written c.in-Ok.ensures.bytes);
}
