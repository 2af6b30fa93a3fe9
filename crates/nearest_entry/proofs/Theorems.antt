-- What is promised of the answers to a text. Assumes nothing.
use mathlib.Core.Path.{◌≡◌, refl, sym, ap, ◌∙◌}
use mathlib.Core.Logic.{◌⊎◌, inl, inr}
use Rattle.std.specs.Prelude.{Some as some, None as none}
use mathlib.Core.List.{map}
use Rattle.text.specs.Text.{bytes}
use Rattle.cells.specs.Cells.{exactly}
use Rattle.file_format.specs.Routine.{Routine, read_bound}
use Rattle.file_format.specs.Routine as readings
use Rattle.file_format.proofs.RowLaws.{read-passes}
use Rattle.answers.specs.Answers.{reported, memory_limit}
use Rattle.answers.proofs.AnswerLaws.{never, from-reading}
use Rattle.nearest_changes.specs.Places.{replace_at, positions}
use Rattle.nearest_changes.specs.Changes.{number_at, applied}
use Rattle.nearest_search.specs.Search.{Searched, found, refused_by, search}
use Rattle.nearest_search.proofs.Theorems.{found-moves, none_moves}
use Rattle.nearest_entry.specs.Answers.{name_of, line_of, change_text, of_searched, nearest_routine, nearest_answer}
use Rattle.nearest_entry.specs.Promises.{NamesFirst, SaysNone, NearestKept, NamedInOrder, ChangedNamed, TriedReads}
use Rattle.nearest_entry.specs.Replaced.{tried}
use Rattle.nearest_entry.proofs.NameLaws.{places-named}
use Rattle.nearest_entry.proofs.ReplacedLaws.{with_start, place_read, place-named}

pub nearest-kept : NearestKept
unfolding nearest_answer nearest_routine of_searched change_text
nearest-kept text n bs e =
    let a = from-reading nearest_routine (read_bound text) memory_limit n bs e in
    let x = a.routine in
    (x, a.reads, go x (search x.code x.budget x.start) refl a.gives)
  where
    go : (x : Routine) (o : Searched) → search x.code x.budget x.start ≡ o → of_searched o ≡ reported bs → NamesFirst x bs ⊎ SaysNone x bs
    go x (found (some c)) q e = let m = found-moves x.code x.budget x.start c q in let f : bs ≡ line_of c = cc in inl (m.0, c, m.1, f)
    go x (found none) q e = let m = (none_moves x.code x.budget x.start).0 q in let f : bs ≡ bytes "NONE\n" = cc in inr (m.0, m.1, f)
    go x (refused_by r) q e = never r bs e

-- ---- the names, and the text that is tried

pub named-in-order : NamedInOrder
named-in-order text x e =
    let r = read-passes text x e in
    ap (λ (y : Routine). map name_of (positions y.start)) r.1 ∙ places-named r.0

pub changed-named : ChangedNamed
changed-named text x n d c e b =
    let r = read-passes text x e in
    place-named r.0 c.place b.old (ap (λ (y : Routine). number_at c.place y.start) (sym r.1) ∙ b.holds)

pub tried-reads : TriedReads
unfolding tried applied
tried-reads text x n d c i e b u short =
    let r = read-passes text x e in
    place_read text r.0 c.place i c.value b.fits u short
    ∙ ap (λ (y : Routine). readings.routine (with_start (replace_at c.place (exactly c.value) y.start) y)) (sym r.1)
