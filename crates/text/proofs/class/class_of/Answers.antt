use Rattle.std.proofs.Common.{◌<◌, arith}
use Rattle.std.proofs.lemmas.List.FromFn.{get_or-map-range_with_len}
use Rattle.text.specs.Classes.{class_of}
use Rattle.text.specs.declared.class.Class.TheVariants.{Opening}
use Rattle.text.proofs.class.class_of.Goals as goal

-- the table is the class of each number below 256
pub returns : goal.returns
returns c = let fits : c.args.byte < 256 = omega arith in get_or-map-range_with_len class_of 0 256 c.args.byte c.args.byte Opening fits (omega arith)
