-- The game that two lists make: what its positions are, and that lists without a fault make one with the bounds and both laws.
use Rattle.std.specs.Prelude.{◌≡◌, ℕ, ◌<◌, List, length, drop, None, slice_index, slice_index_or}
use Rattle.std.proofs.Common.{sym, ◌∙◌, ap, subst, arith}
use Rattle.std.proofs.lemmas.List.{length-map, length-take, get_or-map}
use Rattle.game.specs.Positions.{Position, blank, position, Leads}
use Rattle.game.specs.Laws.{Lawful}
use Rattle.game.proofs.Answered.{leads_from}
use Rattle.games.specs.declared.row.Row.{Row}
use Rattle.games.specs.Rows.{side_in, span_of, position_of, meaning_of, blank_row, row_of, rows_refusal}
use Rattle.games.specs.Faults.{AllSound, all_sound}

pub meaning_length : (rs : List Row) (ts : List ℕ) → length (meaning_of rs ts) ≡ length rs
meaning_length rs ts = length-map rs (position_of ts)

pub meaning_read : (rs : List Row) (ts : List ℕ) (u : ℕ) → u < length rs → position (meaning_of rs ts) u ≡ position_of ts (row_of rs u)
meaning_read rs ts u h = get_or-map (position_of ts) rs u blank_row blank h

module _ (rs : List Row) (ts : List ℕ) (none : rows_refusal rs ts ≡ None) where
  sound : AllSound rs ts
  sound = all_sound rs ts none

  -- a move of the game is a target of a row
  record Move (u k w : ℕ) : Type 0 where
    here : u < length rs
    from : position (meaning_of rs ts) u ≡ position_of ts (row_of rs u)
    within_span : k < length (span_of ts (row_of rs u))
    there : w < length rs
    to : position (meaning_of rs ts) w ≡ position_of ts (row_of rs w)
    target : slice_index_or (span_of ts (row_of rs u)) k 0 ≡ w

  move : (u k w : ℕ) → Leads (meaning_of rs ts) u k w → Move u k w
  move u k w l =
      let n = meaning_length rs ts in
      let b = leads_from (meaning_of rs ts) u k w l in
      let h : u < length rs = omega arith in
      let from = meaning_read rs ts u h in
      let span : k < length (span_of ts (row_of rs u)) = subst (λ (q : Position). k < length q.moves) from l.there in
      let target : slice_index_or (span_of ts (row_of rs u)) k 0 ≡ w = ap (λ (q : Position). slice_index q.moves k) (sym from) ∙ l.to in
      let inside = (sound.rows u h).inside k span in
      let t : w < length rs = omega arith in
      record { here = h; from = from; within_span = span; there = t; to = meaning_read rs ts w t; target = target }

  pub lawful : Lawful (meaning_of rs ts)
  lawful =
      let n = meaning_length rs ts in
      let s = sound in
      record {
        bounded = record {
          some = omega (arith, s.some);
          few = omega (arith, s.few);
          levels = λ u h. let b : u < length rs = omega arith in let e = ap (λ (q : Position). q.level) (meaning_read rs ts u b) in let l = (s.rows u b).level in omega arith;
          degrees = λ u h.
              let b : u < length rs = omega arith in
              let e = ap (λ (q : Position). length q.moves) (meaning_read rs ts u b) in
              let m = length-take (row_of rs u).count (drop (row_of rs u).first ts) in
              let l = (s.rows u b).count in
              omega arith;
          targets = λ u k w l. let m = move u k w l in omega (arith, m.there);
        };
        monotone = λ u k w l.
            let m = move u k w l in
            let r = (s.rows u m.here).rises k m.within_span in
            let a = ap (λ (q : Position). q.level) m.from in
            let b = ap (λ (q : Position). q.level) m.to in
            let t = ap (λ (x : ℕ). (row_of rs x).level) m.target in
            omega arith;
        keeps_kind = λ u k w l e.
            let m = move u k w l in
            let a = ap (λ (q : Position). q.level) m.from in
            let b = ap (λ (q : Position). q.level) m.to in
            let t = ap (λ (x : ℕ). (row_of rs x).level) m.target in
            let same = (s.rows u m.here).keeps k m.within_span (sym a ∙ e ∙ b ∙ sym t) in
            ap (λ (q : Position). q.kind) m.from ∙ ap side_in (same ∙ ap (λ (x : ℕ). (row_of rs x).kind) m.target) ∙ sym (ap (λ (q : Position). q.kind) m.to);
      }
