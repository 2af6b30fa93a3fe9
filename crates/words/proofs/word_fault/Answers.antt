-- A turn reads an instruction and tests what an import refuses of it.
use mathlib.Core.Path.{◌≡◌, sym, ap, ◌∙◌}
use native.Mathlib.Omega.{arith}
use native.Mathlib.Numerals.{add-one}
use mir.Syntax.{w32}
use mir.ValLaws.{to_z-of_z}
use borrow.Author.Rules.{rules}
use Rattle.instructions.specs.Kinds.{kind_at}
use Rattle.words.specs.Words.{words_of}
use Rattle.words.specs.Decoding.{call_listed}
use Rattle.words.proofs.HeadLaws.{size_small, head_read, head-fits, words-some}
use Rattle.words.proofs.FaultLaws.{fault-empty, fault-starts, fault-none, fault-unread, fault-many, fault-call, fault-next}
use Rattle.words.proofs.word_fault.Goals as goal
use Rattle.words.proofs.word_fault.Goals.{After-call_listed}

pub returns-then-words-eq0 : goal.returns-then-words-eq0
returns-then-words-eq0 c = sym (fault-empty c.args.listed c.args.words.now c.if-words-eq0.true)

pub loop-rest-init : goal.loop-rest-init
loop-rest-init c = record { same = fault-starts c.args.listed c.args.words.now (omega arith); passed = omega arith; few = omega arith }

pub returns-in_default : goal.returns-in_default
returns-in_default c =
    let rest = c.loop-rest.rest.now in
    sym (c.loop-rest.invariant.same ∙ fault-unread _ _ _ (words_of rest) (words-some rest c.loop-rest-test.true) (sym c.read_head.ensures ∙ c.in_default.is))

pub returns-then-count-ge1024 : goal.returns-then-count-ge1024
returns-then-count-ge1024 c = sym (c.loop-rest.invariant.same ∙ fault-many _ _ (head_read _ _ _ _ (sym c.in-Some.ensures)) (omega arith))

pub call_listed-requires : goal.call_listed-requires
call_listed-requires c = (c.requires, (head_read c.loop-rest.index _ _ _ (sym c.in-Some.ensures)).known)

-- the test of its primitive
listed : (c : After-call_listed) → call_listed c.args.listed c.in-Some.argument (kind_at c.in-Some.k).argument ≡ c.call_listed.result
listed c = sym (c.call_listed.ensures ∙ ap (λ z. call_listed c.args.listed z (kind_at c.in-Some.k).argument) (to_z-of_z w32 c.in-Some.argument (search rules)))

pub returns-then-not-call_listed : goal.returns-then-not-call_listed
returns-then-not-call_listed c =
    let t = listed (goal.at.returns-then-not-call_listed c).After-call_listed ∙ c.if-not-call_listed.true in
    rw (add-one c.loop-rest.index) (sym (c.loop-rest.invariant.same ∙ fault-call _ _ (head_read _ _ _ _ (sym c.in-Some.ensures)) (omega arith) t))

pub after-next-requires : goal.after-next-requires
after-next-requires c = ((head_read c.loop-rest.index _ _ _ (sym c.in-Some.ensures)).known, head-fits _ _ _ (sym c.in-Some.ensures))

pub size_of-index-requires : goal.size_of-index-requires
size_of-index-requires c = (head_read c.loop-rest.index _ _ _ (sym c.in-Some.ensures)).known

pub overflow_add-index : goal.overflow_add-index
overflow_add-index c = omega (arith, head-fits _ _ _ (sym c.in-Some.ensures), c.size_of-index.ensures, c.loop-rest.invariant.passed)

pub loop-rest-smaller : goal.loop-rest-smaller
loop-rest-smaller c = omega (arith, size_small c.in-Some.k, c.after-next.ensures.shorter)

pub loop-rest-preserved : goal.loop-rest-preserved
loop-rest-preserved c =
    let t = listed (goal.at.loop-rest-preserved c).After-call_listed ∙ c.if-not-call_listed.false in
    record {
      same = c.loop-rest.invariant.same ∙ fault-next _ c.loop-rest.count (head_read _ _ _ _ (sym c.in-Some.ensures)) (omega arith) t c.size_of-index.ensures c.after-next.ensures.words;
      passed = omega (arith, c.size_of-index.ensures, c.after-next.ensures.shorter, c.loop-rest.invariant.passed);
      few = omega arith;
    }

pub returns : goal.returns
returns c = sym (c.loop-rest.invariant.same ∙ fault-none _ _ _ c.loop-rest.rest.now (omega arith))
