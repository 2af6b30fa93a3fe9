-- A turn enters the instruction that is read; where none can be read, no words are left.
use Rattle.std.specs.Prelude.{None}
use Rattle.std.proofs.Common.{◌≡◌, ℕ, List, refl, sym, ◌∙◌, ⊎_elim, arith, length}
use Rattle.std.proofs.lemmas.Bool.{cases_lt}
use Rattle.words.specs.Words.{Word, words_of}
use Rattle.words.specs.Decoding.{decoded, items}
use Rattle.words.specs.Held.{head_of, Numbered}
use Rattle.words.proofs.HeadLaws.{size_small, head_read, head-fits, words-some, entries_none}
use Rattle.words.proofs.NumberingLaws.{Numbering, numbering-starts, numbering-reads, numbering-room, numbering-next, numbering-ends}
use Rattle.words.proofs.numbers_of.Goals as goal

pub loop-k-init : goal.loop-k-init
loop-k-init c = numbering-starts _ _ c.requires refl refl

pub bounds-numbers-index : goal.bounds-numbers-index
bounds-numbers-index c = (numbering-room c.loop-k.invariant (head_read _ _ _ _ (sym c.in-Some.ensures))).1

pub after-rest-requires : goal.after-rest-requires
after-rest-requires c = ((head_read c.loop-k.index _ _ _ (sym c.in-Some.ensures)).known, head-fits _ _ _ (sym c.in-Some.ensures))

pub size_of-index-requires : goal.size_of-index-requires
size_of-index-requires c = (head_read c.loop-k.index _ _ _ (sym c.in-Some.ensures)).known

pub overflow_add-index : goal.overflow_add-index
overflow_add-index c = omega (arith, numbering-room c.loop-k.invariant (head_read _ _ _ _ (sym c.in-Some.ensures)), size_small c.in-Some.k)

pub loop-k-smaller : goal.loop-k-smaller
loop-k-smaller c = omega (arith, size_small c.in-Some.k)

pub loop-k-preserved : goal.loop-k-preserved
loop-k-preserved c = numbering-next c.loop-k.invariant (head_read _ _ _ _ (sym c.in-Some.ensures)) c.size_of-index.ensures c.after-rest.ensures.words

ended : {all : List Word} {t : List ℕ} {i n : ℕ} (bytes : List ℕ) → Numbering all t i n (words_of bytes) → head_of (words_of bytes) ≡ None → Numbered (items (decoded all)) t
ended bytes s e = ⊎_elim (λ h. numbering-reads s (words-some bytes h) e) (λ h. numbering-ends s (entries_none _ bytes (omega arith))) (cases_lt 0 (length bytes))

pub returns : goal.returns
returns c = ended _ c.loop-k.invariant (sym c.read_head.ensures ∙ c.in_default.is)
