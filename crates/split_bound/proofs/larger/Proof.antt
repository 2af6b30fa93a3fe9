-- `split_bound::larger` meets its contract. Assumes nothing.
use Rattle.std.specs.Prelude.{Ok}
use mathlib.Core.Path.{sym, ap, ◌∙◌}
use Rattle.split_bound.specs.Held.{larger_by, larger_of}
use borrow.Author.Rules.{rules}
use Rattle.split_bound.proofs.larger.Statement.{statement}
use Rattle.split_bound.proofs.larger.Tie as tie

returns : tie.Need-returns-in_default
unfolding larger_by larger_of
returns c = sym (ap (larger_by c.args.f c.args.g) c.in_default.is)

returns-2 : tie.Need-returns
unfolding larger_by larger_of
returns-2 c =
    let a = c.args in
    (λ i. record {
      verdict = Ok tt;
      used = c.max-used.ensures i;
      cycles = c.max-cycles.ensures i;
      words = c.max-words.ensures i;
      depth = c.max-depth.ensures i;
      path = 1;
    })
    ∙ sym (ap (larger_by a.f a.g) c.in-Ok.is)

pub larger_spec : {M : Type 1} → statement M
larger_spec =
    tie.close
    (tie.spec
    (λ c. search rules)
    (λ c. search rules)
    returns
    (λ c κs. search rules)
    (λ c κs. search rules)
    (λ c κs. search rules)
    (λ c κs. search rules)
    returns-2)
