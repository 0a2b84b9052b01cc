-- How a tally counts, and what it prints.
use Rattle.std.specs.Prelude.{ℕ, ◌+◌, ◌-◌, ◌^◌, Bool, List, ◌++◌, min, if◌then◌else◌, codes, decimal}
use Rattle.cases.specs.declared.tally.Tally.{Tally}

-- One more, up to the largest count that there is.
abbrev pub one_more : ℕ → ℕ
one_more n = min (n + 1) (2 ^ 64 - 1)

-- The tally after one more case, which came out as it should or not.
abbrev pub counted : Bool → Tally → Tally
counted same t = record { name = t.name; tried = one_more t.tried; differ = (if same then t.differ else one_more t.differ) }

-- The line that a tally prints.
abbrev pub tally_text : Tally → List ℕ
tally_text t = t.name.now ++ (codes ": " ++ (decimal t.tried ++ (codes " tried, " ++ (decimal t.differ ++ codes " differ"))))
