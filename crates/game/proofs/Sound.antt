-- On a sheet that keeps the rules, the side that an entry names wins from there.
use Rattle.std.proofs.Common.{◌≡◌, ℕ, zero, suc, ◌<◌, ◌⊎◌, List, length, sym, refl, ap, ◌∙◌, subst, inl, inr, arith}
use Rattle.std.proofs.lemmas.Bool.{cases_lt, cases_eq}
use Rattle.game.specs.declared.side.Side.{Side}
use Rattle.game.specs.declared.sheet.Entry.{Entry}
use Rattle.game.specs.Sides.{opposite}
use Rattle.game.specs.Positions.{Position, position, Leads}
use Rattle.game.specs.Laws.{Lawful}
use Rattle.game.specs.Winning.{place, Run, Follows, Good, Wins, Strategy}
use Rattle.game.specs.Sheets.{entry_of, Coloured}
use Rattle.game.specs.Rules.{Counts, KeepsAt, KeepsRules}
use Rattle.game.proofs.Sides.{cases_side, apart, number_same}

-- the rules at v, for the side that its entry names
pub keeps_for : (ps : List Position) (es : List Entry) → KeepsRules ps es → (v : ℕ) → v < length ps → (c : Side) → Coloured es v c → KeepsAt ps es v c
keeps_for ps es keeps v h c s =
    let (d, k) = keeps.rules v h in
    subst (λ x. KeepsAt ps es v x) (number_same d c (sym k.coloured ∙ s)) k

-- the strategy that a sheet writes down
abbrev pub chosen : List Entry → ℕ → ℕ
chosen es u = (entry_of es u).choice

-- from u to w the level rises; or it stays, and so does the kind, and away from home the rank falls
abbrev Onward : List Position → List Entry → Side → ℕ → ℕ → Type 0
Onward ps es c u w = ((position ps u).level < (position ps w).level) ⊎ (((position ps u).level ≡ (position ps w).level) × ((position ps u).kind ≡ (position ps w).kind) × ((position ps u).kind ≡ opposite c → (entry_of es w).rank < (entry_of es u).rank))

module _ (ps : List Position) (es : List Entry) (c : Side) where
  onward_onward : (u w x : ℕ) → Onward ps es c u w → Onward ps es c w x → Onward ps es c u x
  onward_onward u w x (inl a) (inl b) = inl (omega arith)
  onward_onward u w x (inl a) (inr b) = inl (omega arith)
  onward_onward u w x (inr a) (inl b) = inl (omega arith)
  onward_onward u w x (inr a) (inr b) = inr (a.0 ∙ b.0, a.1 ∙ b.1, λ e. let f = a.2 e in let g = b.2 (sym a.1 ∙ e) in omega arith)

  -- no way leads from a position of the other kind back to itself
  no_return : (u w : ℕ) → Onward ps es c u w → u ≡ w → (position ps u).kind ≡ opposite c → ⊥
  no_return u w d e k =
      let a : (position ps u).level ≡ (position ps w).level = ap (λ (x : ℕ). (position ps x).level) e in
      let b : (entry_of es u).rank ≡ (entry_of es w).rank = ap (λ (x : ℕ). (entry_of es x).rank) e in
      elim d [ inl m ↦ omega arith | inr m ↦ let n = m.2 k in omega arith ]

module _ (ps : List Position) (lawful : Lawful ps) (es : List Entry) (keeps : KeepsRules ps es) (c : Side) where
  -- one step by a move that counts, from an entry of colour c
  module _ (u w k : ℕ) (h : u < length ps) (s : Coloured es u c) (l : Leads ps u k w) (n : Counts ps es u c k) where
    step_keeps : Coloured es w c
    step_keeps = (keeps_for ps es keeps u h c s).moves k w l n

    step_onward : Onward ps es c u w
    step_onward =
        let r = lawful.monotone u k w l in
        elim (cases_lt (position ps u).level (position ps w).level) [
          | inl a ↦ inl a
          | inr a ↦ let e : (position ps u).level ≡ (position ps w).level = omega arith in inr (e, lawful.keeps_kind u k w l e, λ d. (keeps_for ps es keeps u h c s).falls d k w l n (sym e))
        ]

  module _ (run : List ℕ) (v : ℕ) (s : Coloured es v c) (r : Run ps v run) (f : Follows ps c (chosen es) run) where
    -- each step of the run is by a move that counts
    counted : (i : ℕ) → suc i < length run → (k : ℕ) × Leads ps (place run i) k (place run (suc i)) × Counts ps es (place run i) c k
    counted i l = elim (cases_side c (position ps (place run i)).owner) [
      | inl o ↦ (chosen es (place run i), f i l o, λ d. refl)
      | inr o ↦ ((r.steps i l).0, (r.steps i l).1, λ d. absurd (apart c (sym d ∙ o)))
    ]

    pub stays : (i : ℕ) → i < length run → Coloured es (place run i) c
    stays zero l = subst (λ (u : ℕ). Coloured es u c) (sym r.first) s
    stays (suc i) l =
        let (k, m, n) = counted i l in
        step_keeps (place run i) (place run (suc i)) k (r.positions i (omega arith)) (stays i (omega arith)) m n

    onwards : (i j : ℕ) → i < j → j < length run → Onward ps es c (place run i) (place run j)
    onwards i zero b l = absurd (omega arith)
    onwards i (suc j) b l =
        let (k, m, n) = counted j l in
        let d = step_onward (place run j) (place run (suc j)) k (r.positions j (omega arith)) (stays j (omega arith)) m n in
        elim (cases_eq i j) [
          | inl e ↦ subst (λ (x : ℕ). Onward ps es c (place run x) (place run (suc j))) (sym e) d
          | inr e ↦ onward_onward ps es c (place run i) (place run j) (place run (suc j)) (onwards i j (omega arith) (omega arith)) d
        ]

    pub good : Good ps c run
    good = record {
      moves = λ i l o. let m = (keeps_for ps es keeps (place run i) (r.positions i l) c (stays i l)).choice.own o in omega arith;
      once = λ i j b l. no_return ps es c (place run i) (place run j) (onwards i j b l);
    }

  legal : Strategy ps c (chosen es)
  legal u h o m =
      let (d, k) = keeps.rules u h in
      elim (cases_side d (position ps u).owner) [ inl e ↦ k.choice.own e | inr e ↦ let z = k.choice.other e in omega arith ]

  pub sound : (v : ℕ) → v < length ps → Coloured es v c → Wins ps c v
  sound v h s = record { here = h; σ = chosen es; strategy = legal; wins = λ run r f. good run v s r f }
