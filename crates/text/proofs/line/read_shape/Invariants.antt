use Rattle.std.proofs.Common.{◌≡◌, ◌≤◌}
use Rattle.std.specs.Option.{option_or}
use Rattle.text.specs.declared.shape.Shape.TheVariants.{Start}
use Rattle.text.specs.Tokens.{lexemes, lexical_refusal}
use Rattle.text.specs.Reading.{depth_of, lexemes_left}
use Rattle.text.specs.Forms.{shape_of, deep_place}
use Rattle.text.proofs.line.read_shape.Given as goal

-- what is left of the line decides
abbrev pub invariant-loop-token : goal.invariant-loop-token
invariant-loop-token l =
    let all = lexemes l.number 0 l.line in
    let rest = lexemes_left l.token-iterator in
    record {
      depth : depth_of l.read.shape ≤ l.token-iterator.place.offset;
      refusal : lexical_refusal rest ≡ lexical_refusal all;
      shape : shape_of l.read.shape rest ≡ shape_of Start all;
      deep : option_or l.read.deep (deep_place l.read.shape rest) ≡ deep_place Start all;
    }
