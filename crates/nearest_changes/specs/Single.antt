-- "cells that hold one number" (document 02, §13): a range of one
use Rattle.refusals.specs.Library.{eqb, ℤ, cond}
use Rattle.machine.specs.Terms.{Try, done, stuck, Value, Range, Handle, Cell}

-- the number of a range of one; stuck for a wider range and for a handle
unfoldable pub single_in : Value → Try ℤ
single_in (Range low more) = cond (eqb more 0) (done low) stuck
single_in (Handle k) = stuck

-- the same of a cell
unfoldable pub single : Cell → Try ℤ
single c = single_in c.value
