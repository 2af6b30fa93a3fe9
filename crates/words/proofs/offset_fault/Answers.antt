-- A turn tests the offset of the instruction that is read; where none can be read, no words are left.
use Rattle.std.specs.Prelude.{None}
use Rattle.std.proofs.Common.{◌≡◌, ℕ, suc, pos, ◌+ℤ◌, List, length, refl, sym, ap, ◌∙◌, ⊎_elim, arith, rules, add-one}
use Rattle.std.proofs.lemmas.Bool.{cases_lt}
use mir.Syntax.{w32}
use mir.ValLaws.{to_z-of_z}
use Rattle.instructions.specs.Kinds.{kind_at}
use Rattle.words.specs.Words.{words_of}
use Rattle.words.specs.Decoding.{Item, item_of, opcode, decoded_words, decoded, items, lands, offset_fault}
use Rattle.words.specs.Held.{head_of, lands_in}
use Rattle.words.proofs.HeadLaws.{size_small, head_read, head-fits, words-some, entries_none}
use Rattle.words.proofs.OffsetLaws.{Ahead, ahead-starts, ahead-reads, ahead-room, ahead-next, lands-in, offset-here, offset-next, offset-none}
use Rattle.words.proofs.offset_fault.Goals as goal
use Rattle.words.proofs.offset_fault.Goals.{After-lands}

pub loop-k-init : goal.loop-k-init
unfolding decoded
loop-k-init c = record { ahead = ahead-starts c.requires.0; same = refl }

pub lands-requires : goal.lands-requires
lands-requires c = let r = head_read _ _ _ _ (sym c.in-Some.ensures) in (r.known, ahead-room c.loop-k.invariant.ahead r)

pub overflow_add-result : goal.overflow_add-result
overflow_add-result c = omega (arith, ahead-room c.loop-k.invariant.ahead (head_read _ _ _ _ (sym c.in-Some.ensures)))

-- the test of the offset
tested : (c : After-lands) → lands (items (decoded (words_of c.args.words.now))) (item_of c.loop-k.index c.in-Some.k c.in-Some.argument) (kind_at c.in-Some.k).argument ≡ c.lands.result
tested c =
    sym
    (c.lands.ensures
    ∙ ap (λ z. lands_in c.args.numbers.now (pos (suc c.loop-k.index) +ℤ z) (kind_at c.in-Some.k).argument) (to_z-of_z w32 c.in-Some.argument (search rules))
    ∙ lands-in c.requires.1 (item_of c.loop-k.index c.in-Some.k c.in-Some.argument) (kind_at c.in-Some.k).argument)

pub returns-then-not-lands : goal.returns-then-not-lands
returns-then-not-lands c =
    let t = tested (goal.at.returns-then-not-lands c).After-lands ∙ c.if-not-lands.true in
    rw (add-one c.loop-k.index) (sym (c.loop-k.invariant.same ∙ offset-here _ (head_read _ _ _ _ (sym c.in-Some.ensures)) t))

pub after-rest-requires : goal.after-rest-requires
after-rest-requires c = ((head_read c.loop-k.index _ _ _ (sym c.in-Some.ensures)).known, head-fits _ _ _ (sym c.in-Some.ensures))

pub size_of-index-requires : goal.size_of-index-requires
size_of-index-requires c = (head_read c.loop-k.index _ _ _ (sym c.in-Some.ensures)).known

pub overflow_add-index : goal.overflow_add-index
overflow_add-index c = omega (arith, ahead-room c.loop-k.invariant.ahead (head_read _ _ _ _ (sym c.in-Some.ensures)), size_small c.in-Some.k)

pub loop-k-smaller : goal.loop-k-smaller
loop-k-smaller c = omega (arith, size_small c.in-Some.k)

pub loop-k-preserved : goal.loop-k-preserved
loop-k-preserved c =
    let r = head_read _ _ _ _ (sym c.in-Some.ensures) in
    let t = tested (goal.at.loop-k-preserved c).After-lands ∙ c.if-not-lands.false in
    record {
      ahead = ahead-next c.loop-k.invariant.ahead r c.size_of-index.ensures c.after-rest.ensures.words;
      same = c.loop-k.invariant.same ∙ offset-next _ r t c.size_of-index.ensures c.after-rest.ensures.words;
    }

-- where no instruction can be read
ended : (xs : List Item) (i : ℕ) (bytes : List ℕ) → Ahead i (words_of bytes) → head_of (words_of bytes) ≡ None → offset_fault xs (items (decoded_words opcode i (words_of bytes))) ≡ None
ended xs i bytes a e = ⊎_elim (λ h. ahead-reads a (words-some bytes h) e) (λ h. offset-none _ _ _ (entries_none _ bytes (omega arith))) (cases_lt 0 (length bytes))

pub returns : goal.returns
returns c = sym (c.loop-k.invariant.same ∙ ended _ _ _ c.loop-k.invariant.ahead (sym c.read_head.ensures ∙ c.in_default.is))
