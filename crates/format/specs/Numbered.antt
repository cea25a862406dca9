-- A number, read as a refusal's.
use Rattle.std.specs.Prelude.{◌≡◌, ℕ, ◌<◌, Result, MatchResult}
use Rattle.format.specs.Read.{number_of}
use Rattle.format.specs.declared.Refusal.{Refusal}
use Rattle.format.specs.declared.NoRefusal.{NoRefusal}

abbrev pub Numbered : ℕ → Result Refusal NoRefusal → Type 0
Numbered n r = MatchResult r (λ x. number_of x ≡ n) (λ e. (e.0 ≡ n) × (0 < n → 15 < n))
