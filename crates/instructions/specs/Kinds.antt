-- The 61 instruction kinds as one table. (document 01, Cells and machine)
use Rattle.std.specs.Prelude.{◌∷◌}
use Rattle.refusals.specs.Library.{ℕ, String, ℤ, pos, get_or, Bool, true, false, List, [], map}
use Rattle.numbers.specs.Numbers.{naturals, numbers}
use Rattle.numbers.specs.declared.Range.{Range}
use Rattle.numbers.specs.declared.Comparison.TheVariants.{Equal, Unequal, Less, AtMost, Greater, AtLeast}
use Rattle.text.specs.Text.{bytes}
use Rattle.cells.specs.declared.Unary.TheVariants.{Offset, Negate, Complement}
use Rattle.cells.specs.declared.Binary.TheVariants.{Add, Subtract, Compare}
use Rattle.instructions.specs.declared.Argument.{Argument}
use Rattle.instructions.specs.declared.Argument.TheVariants.{Absent, Target, Primitive, Within}
use Rattle.instructions.specs.declared.Operation.{Operation}
use Rattle.instructions.specs.declared.Operation.TheVariants.{Nothing, Access, Drop, Assign, Constant, GetField, SetField, Branch, BranchIf, BranchIfNot, Call, Stop, Alter, Combine}

-- that a kind calls a primitive, and so takes an answer
abbrev pub calls : Argument → Bool
calls Absent = false
calls Target = false
calls Primitive = true
calls (Within r) = false

-- "Targets are addresses, 0 to 62,000."
abbrev pub addresses : Range
addresses = naturals 0 62000

-- "ACC n (0 to 63)", "ASSIGN n (0 to 63)"
abbrev pub entry : Argument
entry = Within (naturals 0 63)

-- "POP n (0 to 64)"
abbrev pub count : Argument
count = Within (naturals 0 64)

-- "GETFIELD n (0 to 15)"
abbrev pub field : Argument
field = Within (naturals 0 15)

-- "An i is any .. number" (document 01), of 31 bits (document 02, §7)
abbrev pub any : Argument
any = Within numbers

-- a kind: its opcode, its name, its argument, whether it pushes first, its operation, and the operand that its name fixes
pub record Kind : Type 0 where
  pub opcode : ℕ
  pub name : List ℕ
  pub argument : Argument
  pub pushes : Bool
  pub operation : Operation
  pub fixed : ℤ

-- a kind by its columns
abbrev pub kind : ℕ → String → Argument → Bool → Operation → ℕ → Kind
kind c s a p o n = record { opcode = c; name = bytes s; argument = a; pushes = p; operation = o; fixed = pos n }

-- whether a kind pushes first: a column of the table
abbrev pub pushes : Bool
pushes = true

abbrev pub stays : Bool
stays = false

-- "The 61 instruction kinds", in document 01's order. The first column is the opcode in "the OCaml distribution's public opcode list"
-- (document 02, §2), version 4.13.1. The last column is the n of ACC0 to ACC7, the number of CONST0 to CONST3, the
-- field of GETFIELD0 to 3, and for C_CALL1 to C_CALL5 "one fewer popped than the digit"; it is 0 where the argument or nothing is used.
unfoldable pub kinds : List Kind
kinds =
    kind 0 "ACC0" Absent stays Access 0 ∷
    kind 1 "ACC1" Absent stays Access 1 ∷
    kind 2 "ACC2" Absent stays Access 2 ∷
    kind 3 "ACC3" Absent stays Access 3 ∷
    kind 4 "ACC4" Absent stays Access 4 ∷
    kind 5 "ACC5" Absent stays Access 5 ∷
    kind 6 "ACC6" Absent stays Access 6 ∷
    kind 7 "ACC7" Absent stays Access 7 ∷
    kind 8 "ACC" entry stays Access 0 ∷
    kind 9 "PUSH" Absent pushes Nothing 0 ∷
    kind 10 "PUSHACC0" Absent pushes Access 0 ∷
    kind 11 "PUSHACC1" Absent pushes Access 1 ∷
    kind 12 "PUSHACC2" Absent pushes Access 2 ∷
    kind 13 "PUSHACC3" Absent pushes Access 3 ∷
    kind 14 "PUSHACC4" Absent pushes Access 4 ∷
    kind 15 "PUSHACC5" Absent pushes Access 5 ∷
    kind 16 "PUSHACC6" Absent pushes Access 6 ∷
    kind 17 "PUSHACC7" Absent pushes Access 7 ∷
    kind 18 "PUSHACC" entry pushes Access 0 ∷
    kind 19 "POP" count stays Drop 0 ∷
    kind 20 "ASSIGN" entry stays Assign 0 ∷
    kind 99 "CONST0" Absent stays Constant 0 ∷
    kind 100 "CONST1" Absent stays Constant 1 ∷
    kind 101 "CONST2" Absent stays Constant 2 ∷
    kind 102 "CONST3" Absent stays Constant 3 ∷
    kind 103 "CONSTINT" any stays Constant 0 ∷
    kind 104 "PUSHCONST0" Absent pushes Constant 0 ∷
    kind 105 "PUSHCONST1" Absent pushes Constant 1 ∷
    kind 106 "PUSHCONST2" Absent pushes Constant 2 ∷
    kind 107 "PUSHCONST3" Absent pushes Constant 3 ∷
    kind 108 "PUSHCONSTINT" any pushes Constant 0 ∷
    kind 127 "OFFSETINT" any stays (Alter Offset) 0 ∷
    kind 109 "NEGINT" Absent stays (Alter Negate) 0 ∷
    kind 88 "BOOLNOT" Absent stays (Alter Complement) 0 ∷
    kind 110 "ADDINT" Absent stays (Combine Add) 0 ∷
    kind 111 "SUBINT" Absent stays (Combine Subtract) 0 ∷
    kind 121 "EQ" Absent stays (Combine (Compare Equal)) 0 ∷
    kind 122 "NEQ" Absent stays (Combine (Compare Unequal)) 0 ∷
    kind 123 "LTINT" Absent stays (Combine (Compare Less)) 0 ∷
    kind 124 "LEINT" Absent stays (Combine (Compare AtMost)) 0 ∷
    kind 125 "GTINT" Absent stays (Combine (Compare Greater)) 0 ∷
    kind 126 "GEINT" Absent stays (Combine (Compare AtLeast)) 0 ∷
    kind 67 "GETFIELD0" Absent stays GetField 0 ∷
    kind 68 "GETFIELD1" Absent stays GetField 1 ∷
    kind 69 "GETFIELD2" Absent stays GetField 2 ∷
    kind 70 "GETFIELD3" Absent stays GetField 3 ∷
    kind 71 "GETFIELD" field stays GetField 0 ∷
    kind 73 "SETFIELD0" Absent stays SetField 0 ∷
    kind 74 "SETFIELD1" Absent stays SetField 1 ∷
    kind 75 "SETFIELD2" Absent stays SetField 2 ∷
    kind 76 "SETFIELD3" Absent stays SetField 3 ∷
    kind 77 "SETFIELD" field stays SetField 0 ∷
    kind 84 "BRANCH" Target stays Branch 0 ∷
    kind 85 "BRANCHIF" Target stays BranchIf 0 ∷
    kind 86 "BRANCHIFNOT" Target stays BranchIfNot 0 ∷
    kind 93 "C_CALL1" Primitive stays Call 0 ∷
    kind 94 "C_CALL2" Primitive stays Call 1 ∷
    kind 95 "C_CALL3" Primitive stays Call 2 ∷
    kind 96 "C_CALL4" Primitive stays Call 3 ∷
    kind 97 "C_CALL5" Primitive stays Call 4 ∷
    kind 143 "STOP" Absent stays Stop 0 ∷
    []

-- the names, in that order
unfoldable pub kind_names : List (List ℕ)
kind_names = map (λ k. k.name) kinds

-- the opcodes, in that order
unfoldable pub opcodes : List ℕ
opcodes = map (λ k. k.opcode) kinds

-- the operand: the instruction's argument where the kind takes a number or a target, else what the name fixes
unfoldable pub operand : Kind → ℤ → ℤ
operand k a = chosen k.argument
  where
    chosen : Argument → ℤ
    chosen Absent = k.fixed
    chosen Target = a
    chosen Primitive = k.fixed
    chosen (Within r) = a

-- the kind at a place of the table, counted from 0; past its end, the last
unfoldable pub kind_at : ℕ → Kind
kind_at k = get_or kinds k (kind 143 "STOP" Absent stays Stop 0)
