-- `words_import::check_import` meets its contract: the primitives line, and then the words.
use mathlib.Core.Path.{◌≡◌, sym, ap, ◌∙◌}
use native.Mathlib.Omega.{arith}
use mathlib.Core.List.{List}
use Prim.Native.Nat.{ℕ}
use lib.ListN.{length, get_or}
use Rattle.text.specs.Text.{lines, no_line}
use Rattle.std.proofs.lemmas.Result.{err_from_is_err_and}
use Rattle.file_format.specs.Layout.{list}
use Rattle.words.specs.Words.{words_of}
use Rattle.words.specs.Decoding.{code_fault}
use Rattle.words.specs.Import.{primitives_of, fault_verdict}
use Rattle.words_import.proofs.ImportLaws.{primitives-are, accepted-few, import-refused, import-next}
use Rattle.words_import.proofs.check_import.Goals as goal

-- the count is that of the primitives
counted : (ps : List ℕ) {line : List ℕ} {n : ℕ} → n ≡ length (list line) → line ≡ (get_or (lines ps) 0 no_line).text → n ≡ length (primitives_of ps)
counted ps e q = e ∙ ap (λ t. length (list t)) q ∙ ap length (sym (primitives-are ps))

pub code_fault-requires : goal.code_fault-requires
code_fault-requires c =
    let few = accepted-few c.args.primitives.now (sym c.check_primitives.ensures ∙ c.in_ok-check_primitives.was) in
    omega (arith, few, counted c.args.primitives.now c.count_listed-listed.ensures c.first_line.ensures)

pub returns-in_err-check_primitives : goal.returns-in_err-check_primitives
returns-in_err-check_primitives c =
    let p = err_from_is_err_and c.from_residual.result c.from_residual.ensures.1 in
    rw (p.1, p.2) (sym (import-refused c.args.words.now c.args.primitives.now _ (sym c.check_primitives.ensures ∙ c.in_err-check_primitives.was)))

pub returns : goal.returns
returns c =
    c.fault_verdict.ensures
    ∙ ap fault_verdict (c.code_fault.ensures ∙ ap (λ n. code_fault n (words_of c.args.words.now)) (counted c.args.primitives.now c.count_listed-listed.ensures c.first_line.ensures))
    ∙ sym (import-next c.args.words.now c.args.primitives.now (sym c.check_primitives.ensures ∙ c.in_ok-check_primitives.was))
