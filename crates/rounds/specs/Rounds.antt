-- The colouring by rounds, level by level from the highest down.
use Rattle.std.specs.Prelude.{ℕ, zero, suc, ◌+◌, ◌-◌, Bool, false, cond, not, ◌&&◌, ◌||◌, List, map, length, ◌==◌, nat_lt}
use Rattle.std.specs.List.{range_with_len}
use Rattle.game.specs.declared.side.Side.{Side}
use Rattle.game.specs.declared.sheet.Entry.{Entry}
use Rattle.game.specs.Sides.{opposite, number_of, same}
use Rattle.game.specs.Positions.{Position, position, degree, target}
use Rattle.game.specs.Sheets.{entry_of}
use Rattle.game.specs.First.{all_below}
use Rattle.rounds.specs.Below.{any_below, first_true, count_below, sum_below, max_below}

-- The side that the rounds give position v to: the one against its kind.
abbrev pub taker : List Position → ℕ → Side
taker ps v = opposite (position ps v).kind

-- Whether w is the taker of v's already: by its colour where w is in a higher level, else by being taken. Here above gives the colours of higher levels, and was says who was taken in earlier rounds.
abbrev pub already : List Position → (ℕ → Side) → (ℕ → Bool) → ℕ → ℕ → Bool
already ps above was v w = cond (nat_lt (position ps v).level (position ps w).level) (same (taker ps v) (above w)) (was w)

-- Whether move k of v leads to a position that is the taker's already.
abbrev pub leads_already : List Position → (ℕ → Side) → (ℕ → Bool) → ℕ → ℕ → Bool
leads_already ps above was v k = already ps above was v (target ps v k)

-- Whether v is forced: the taker owns it and some move leads to a position that is the taker's already, or the other side owns it and every move does.
abbrev pub forced : List Position → (ℕ → Side) → (ℕ → Bool) → ℕ → Bool
forced ps above was v = cond (same (taker ps v) (position ps v).owner) (any_below (leads_already ps above was v) (degree ps v)) (all_below (leads_already ps above was v) (degree ps v))

-- Whether v is taken by the end of round r of its level: it was taken before, or is forced by what was.
unfoldable pub taken_by : List Position → (ℕ → Side) → ℕ → ℕ → Bool
taken_by ps above zero v = false
taken_by ps above (suc r) v = taken_by ps above r v || forced ps above (taken_by ps above r) v

-- The colour of v after the rounds of its level: the taker's if it was taken, else its kind. No more rounds add something than there are positions.
abbrev pub colour_by : List Position → (ℕ → Side) → ℕ → Side
colour_by ps above v = cond (taken_by ps above (length ps) v) (taker ps v) (position ps v).kind

-- The colours once the n highest levels are done: the level done last, and those above as they were.
unfoldable pub colours_after : List Position → ℕ → ℕ → Side
colours_after ps zero v = (position ps v).kind
colours_after ps (suc n) v = cond ((position ps v).level + suc n == length ps) (colour_by ps (colours_after ps n) v) (colours_after ps n v)

-- The colour of v: all levels are done.
unfoldable pub colour_of : List Position → ℕ → Side
colour_of ps v = colours_after ps (length ps) v

-- Whether v is taken by the end of round r.
abbrev pub taken : List Position → ℕ → ℕ → Bool
taken ps r v = taken_by ps (colour_of ps) r v

-- The first round, up to n, by whose end v is taken; 0 where there is none.
unfoldable pub rank_up_to : List Position → (ℕ → Side) → ℕ → ℕ → ℕ
rank_up_to ps above zero v = 0
rank_up_to ps above (suc n) v = cond (taken_by ps above n v) (rank_up_to ps above n v) (cond (taken_by ps above (suc n) v) (suc n) 0)

-- The rank of v: the round that took it, or 0.
abbrev pub rank_of : List Position → ℕ → ℕ
rank_of ps v = rank_up_to ps (colour_of ps) (length ps) v

-- Whether move k suits v: where v was taken, it leads to a position that was the taker's before that round; else to a position of v's colour.
abbrev pub suits : List Position → ℕ → ℕ → Bool
suits ps v k = cond (taken ps (length ps) v) (leads_already ps (colour_of ps) (taken ps (rank_of ps v - 1)) v k) (same (colour_of ps v) (colour_of ps (target ps v k)))

-- The choice at v: the first move that suits it, where its colour owns it; elsewhere 0.
abbrev pub choice_of : List Position → ℕ → ℕ
choice_of ps v = cond (same (colour_of ps v) (position ps v).owner) (first_true (suits ps v) (degree ps v)) 0

-- The entry of v.
abbrev pub entry_for : List Position → ℕ → Entry
entry_for ps v = record { colour = number_of (colour_of ps v); choice = choice_of ps v; rank = rank_of ps v }

-- The colouring's sheet.
abbrev pub colouring : List Position → List Entry
colouring ps = map (entry_for ps) (range_with_len 0 (length ps))

-- What the colouring leaves in a list of entries: its sheet where there is an entry for each position, else what was there.
abbrev pub filled_sheet : List Position → List Entry → List Entry
filled_sheet ps es = cond (length es == length ps) (colouring ps) es

-- Whether round r + 1 takes v, a position of level l.
abbrev pub takes_at : List Position → ℕ → ℕ → ℕ → Bool
takes_at ps l r v = (position ps v).level == l && (taken ps (suc r) v && not (taken ps r v))

-- Whether round r + 1 of level l adds something.
abbrev pub adds : List Position → ℕ → ℕ → Bool
adds ps l r = any_below (takes_at ps l r) (length ps)

-- How many rounds of level l add something.
abbrev pub rounds_at : List Position → ℕ → ℕ
rounds_at ps l = count_below (adds ps l) (length ps)

-- How many rounds add something, over all levels.
abbrev pub rounds_of : List Position → ℕ
rounds_of ps = sum_below (rounds_at ps) (length ps)

-- The rank that a sheet gives v where it is in level l, else 0.
abbrev pub rank_in : List Position → List Entry → ℕ → ℕ → ℕ
rank_in ps es l v = cond ((position ps v).level == l) (entry_of es v).rank 0

-- The sum over the levels of a sheet's highest rank.
abbrev pub highest_ranks : List Position → List Entry → ℕ
highest_ranks ps es = sum_below (λ l. max_below (rank_in ps es l) (length ps)) (length ps)
