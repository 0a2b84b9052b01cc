use Rattle.std.proofs.Common.{◌≡◌, ◌<◌, ◌∷◌, sym, ap, ◌∙◌, arith}
use Rattle.std.proofs.lemmas.Result.{err_from_is_err_and, IfOk-at_ok}
use Rattle.text.specs.declared.shape.Shape.{Shape}
use Rattle.text.specs.Tokens.{Lexeme, lexeme_refusal}
use Rattle.text.specs.Reading.{lexeme_of, lexemes_left}
use Rattle.text.specs.Refusals.{tells, told}
use Rattle.text.specs.Forms.{shape_of}
use Rattle.text.proofs.Shapes.{lexical_end, deep_end, lexical_first, lexical_more, shape_more, deep_after}
use Rattle.text.proofs.Readings.{onward}
use Rattle.text.proofs.line.read_shape.Goals as goal

pub returns-in_err-token-clause-refusal : goal.returns-in_err-token-clause-refusal
returns-in_err-token-clause-refusal c =
    let (l, reading, is, further) = (c.in-Some.ensures {u = tt}).steps in
    let rest = lexemes_left c.loop-token.token-iterator in
    let more = lexemes_left c.next.new.self in
    let p = err_from_is_err_and c.from_residual.result c.from_residual.ensures.1 in
    let fault = sym (ap told (c.in_err-token.was {u = tt})) ∙ reading.refusal in
    rw (p.1, p.2) (lexical_first rest more l is (tells c.in_err-token.field-0.0) fault ∙ c.loop-token.invariant.refusal)

pub loop-token-preserved : goal.loop-token-preserved
loop-token-preserved c =
    let (l, reading, is, further) = (c.in-Some.ensures {u = tt}).steps in
    let rest = lexemes_left c.loop-token.token-iterator in
    let more = lexemes_left c.next.new.self in
    let t = c.in_ok-token.field-0 in
    let token : lexeme_of t ≡ l = IfOk-at_ok (λ t. lexeme_of t ≡ l) (c.in_ok-token.was {u = tt}) reading.token in
    let first : rest ≡ lexeme_of t ∷ more = is ∙ ap (λ (x : Lexeme). x ∷ more) (sym token) in
    let clear = ap lexeme_refusal token ∙ sym reading.refusal ∙ ap told (c.in_ok-token.was {u = tt}) in
    let h = c.loop-token.invariant in
    let e = c.after-read.ensures in
    let on : c.loop-token.token-iterator.place.offset < c.next.new.self.place.offset = onward _ _ further in
    record {
      depth = omega (arith, h.depth, e.bound);
      refusal = lexical_more rest more (lexeme_of t) first clear ∙ h.refusal;
      shape = ap (λ (s : Shape). shape_of s more) e.shape ∙ shape_more rest more (lexeme_of t) first c.loop-token.read.shape ∙ h.shape;
      deep = deep_after rest more (lexeme_of t) first c.loop-token.read.shape _ c.loop-token.read.deep _ e.shape e.deep ∙ h.deep;
    }

pub returns-clause-refusal : goal.returns-clause-refusal
returns-clause-refusal c = sym (lexical_end (lexemes_left c.loop-token.token-iterator) (c.in-None.ensures {u = tt}).steps.0) ∙ c.loop-token.invariant.refusal

pub returns-clause-deep : goal.returns-clause-deep
returns-clause-deep c = sym (deep_end (lexemes_left c.loop-token.token-iterator) (c.in-None.ensures {u = tt}).steps.0 c.loop-token.read.shape c.loop-token.read.deep) ∙ c.loop-token.invariant.deep
