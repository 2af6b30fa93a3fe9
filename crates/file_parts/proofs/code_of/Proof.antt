-- `file_parts::code_of` meets its contract. Assumes nothing.
use native.Mathlib.Omega.{arith}
use Rattle.instructions.specs.Kinds.{kind_at}
use Rattle.file_parts.proofs.EntryLaws.{operation-small, cond-most, coded}
use borrow.Author.Rules.{rules}
use Rattle.file_parts.proofs.code_of.Statement.{statement}
use Rattle.file_parts.proofs.code_of.Tie as tie

add-result : tie.Need-overflow_add-result
add-result c =
    omega (
      arith,
      c.operation_at-operation.ensures,
      operation-small (kind_at c.args.k).operation,
      cond-most c.pushes_at.result c.where_true-pushed.ensures,
    )

add-result-2 : tie.Need-overflow_add-result-2
add-result-2 c =
    omega (
      arith,
      c.operation_at-operation.ensures,
      operation-small (kind_at c.args.k).operation,
      cond-most c.pushes_at.result c.where_true-pushed.ensures,
      cond-most c.calls_at.result c.where_true-called.ensures,
    )

returns : tie.Need-returns
returns c =
    coded (kind_at c.args.k) c.operation_at-operation.ensures
    c.pushes_at.ensures c.where_true-pushed.ensures c.calls_at.ensures c.where_true-called.ensures

pub code_of_spec : {M : Type 1} → statement M
code_of_spec =
    tie.close
    (tie.spec
    (λ c κs. search rules)
    (λ c κs. search rules)
    (λ c κs. search rules)
    (λ c κs. search rules)
    (λ c κs. search rules)
    add-result
    add-result-2
    returns)
