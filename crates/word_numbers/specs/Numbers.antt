-- Which number of a word a loop takes: what the calls of a closure give of each word, as the code holds it.
use Rattle.std.specs.Prelude.{◌≡◌, ℕ}
use Rattle.block.specs.Block as Spec
use Rattle.format.specs.Structs.{word_of}
use Rattle.format.specs.declared.Word.{Word}

abbrev pub Gives : (returns : Word → ℕ → Type 0) → (number : Spec.Word → ℕ) → Type 0
Gives returns number = (w : Word) (n : ℕ) → returns w n → n ≡ number (word_of w)
