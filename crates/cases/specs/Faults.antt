-- How a case's fault is printed.
use Rattle.std.specs.Prelude.{ℕ, cond, List, ◌++◌, codes, decimal, nat_lt}
use Rattle.games.specs.Rows.{fault_text}
use Rattle.cases.specs.declared.fault.CaseFault.{CaseFault}
use Rattle.cases.specs.declared.fault.CaseFault.TheVariants.{Ended, OutOfMemory, NoSide, NoGame, TooMany}

-- The words for a fault; where two lists make no game, the words for why they make none.
abbrev pub case_fault_text : CaseFault → List ℕ
case_fault_text Ended = codes "the file ends within a case"
case_fault_text OutOfMemory = codes "out of memory"
case_fault_text (NoSide number) = codes "no side has the number " ++ decimal number
case_fault_text (NoGame fault) = fault_text fault
case_fault_text TooMany = codes "more cases than can be counted"

-- The words for a fault in brief. A number that is no byte is told apart from one that is a byte and no side's.
abbrev pub brief_text : CaseFault → List ℕ
brief_text Ended = codes "the file ends within a case"
brief_text OutOfMemory = codes "memory allocation failed"
brief_text (NoSide number) = cond (nat_lt 255 number) (codes "out of range integral type conversion attempted") (codes "no side")
brief_text (NoGame _) = codes "the rows make no game"
brief_text TooMany = codes "more cases than can be counted"
