-- What a turn tells of the position where the play stands.
use Rattle.std.proofs.Common.{◌≡◌, ℕ, ◌<◌, Bool, true, false, cond, eqb, List, length, sym, refl, inl, inr}
use Rattle.std.proofs.lemmas.Bool.{and_from, both_ways, eq-eqb, false≢true, lt-ltb}
use Rattle.game.specs.declared.side.Side.{Side}
use Rattle.game.specs.declared.sheet.Entry.{Entry}
use Rattle.game.specs.Sides.{opposite, same}
use Rattle.game.specs.Positions.{Position, position, degree}
use Rattle.game.proofs.Sides.{cases_side, own_same, same_true}
use Rattle.plain.specs.declared.call.Call.{Call}
use Rattle.plain.specs.declared.call.Call.TheVariants.{Go, Reply}
use Rattle.plain.specs.declared.standing.Turn.TheVariants as turn
use Rattle.plain.specs.Plain.{turn_at, comes}
use Rattle.plain.specs.Calls.{fits_turn}

-- the side whose turn a call is made on
abbrev pub caller_of : Side → Call → Side
caller_of house Go = house
caller_of house (Reply k) = opposite house

-- a call comes only where its side owns the position
owned : (b s : Bool) (call : Call) → comes (cond b turn.Ended (cond s turn.House turn.Guest)) call ≡ true → s ≡ comes turn.House call
owned true s Go e = absurd (false≢true e)
owned true s (Reply k) e = absurd (false≢true e)
owned false true call e = sym e
owned false false Go e = e
owned false false (Reply k) e = refl

owner_is : (house owner : Side) (call : Call) → same house owner ≡ comes turn.House call → owner ≡ caller_of house call
owner_is house owner Go e = sym (same_true house owner e)
owner_is house owner (Reply k) e = elim (cases_side house owner) [ inl h ↦ absurd (both_ways _ e (own_same house owner h)) | inr h ↦ h ]

pub comes_owned : (ps : List Position) (house : Side) (v : ℕ) (call : Call) → comes (turn_at ps house v) call ≡ true → (position ps v).owner ≡ caller_of house call
comes_owned ps house v call e = owner_is house (position ps v).owner call (owned (eqb (degree ps v) 0) (same house (position ps v).owner) call e)

-- so the turn fits
pub turn_fits : (ps : List Position) (es : List Entry) (c : Side) (v : ℕ) → length es ≡ length ps → v < length ps → (position ps v).owner ≡ c → fits_turn ps es c v ≡ true
turn_fits ps es c v size within o = and_from _ _ (eq-eqb (length es) (length ps) size) (and_from _ _ (lt-ltb v (length ps) within) (own_same c (position ps v).owner o))
