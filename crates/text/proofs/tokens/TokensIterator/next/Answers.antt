use Rattle.std.proofs.Common.{◌≡◌, ◌<◌, length, get_or, sym, ap, ◌∙◌, arith}
use Rattle.text.specs.Classes.{class_of}
use Rattle.text.proofs.Lexemes.{first_byte, no_byte, some_bytes}
use Rattle.text.proofs.Readings.{past_spaces, no_space_left, token_read, token_further}
use Rattle.text.proofs.tokens.TokensIterator.next.Goals as goal
use Rattle.text.proofs.tokens.TokensIterator.next.Goals.{After-class_of-class}

-- the byte at the front
front : (c : After-class_of-class) → (0 < length c.take_bytes.new.self.rest.now) × (class_of (get_or c.take_bytes.new.self.rest.now 0 0) ≡ c.class_of-class.result)
front c =
    let (some, is) = first_byte c.take_bytes.new.self.rest.now c.in_ok-first.field-0.now (c.in_ok-first.ensures {u = tt}).value in
    (some, ap class_of is ∙ sym c.class_of-class.ensures)

pub returns-in_err-first-clause-steps : goal.returns-in_err-first-clause-steps
returns-in_err-first-clause-steps c =
    let u = c.take_bytes.new.self in
    let none = no_byte u.place.line u.place.offset u.rest.now (c.in_err-first.ensures {u = tt}).value in
    rw c.from_residual.ensures (past_spaces c.args.self.now u _ c.run_length-spaces.ensures.value c.take_bytes.ensures.onward ∙ none, none)

pub take_bytes-bytes-requires : goal.take_bytes-bytes-requires
take_bytes-bytes-requires c =
    let (some, is) = front (goal.at-take_bytes-bytes-requires c).After-class_of-class in
    let within = (some_bytes c.class_of-class.result c.take_bytes.new.self.rest.now some is).1 in
    omega (arith, c.token_length-length.ensures)

pub token_of-requires-clause-front : goal.token_of-requires-clause-front
token_of-requires-clause-front c =
    let (some, is) = front (goal.at-token_of-requires-clause-front c).After-class_of-class in
    no_space_left c.args.self.now c.take_bytes.new.self _ c.run_length-spaces.ensures.value c.take_bytes.ensures.onward some _ is

pub returns-clause-steps : goal.returns-clause-steps
returns-clause-steps c =
    let (some, is) = front (goal.at-returns-clause-steps c).After-class_of-class in
    let s = c.args.self.now in
    let u = c.take_bytes.new.self in
    let t = c.take_bytes-bytes.new.self in
    let spaces = c.run_length-spaces.ensures.value in
    let word = c.take_bytes-bytes.ensures in (
      _,
      c.token_of.ensures,
      token_read s u _ spaces c.take_bytes.ensures.onward some _ is t _ _ c.token_length-length.ensures word.bytes word.onward,
      token_further s u _ spaces c.take_bytes.ensures.onward some _ is t _ _ c.token_length-length.ensures word.bytes word.onward,
    )
