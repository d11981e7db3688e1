-- The words of a line.
use Rattle.std.specs.Prelude.{◌≡◌, ◌≢◌, ◌⊎◌, ◌==◌, ◌++◌, ℕ, List, [], ◌∷◌, Option, None, Some, IsSomeAnd}
use Rattle.std.specs.List.{before_first}

-- the text after a word: nothing, or one space and the rest
abbrev pub tail_of : Option (List ℕ) → List ℕ
tail_of None = []
tail_of (Some rest) = 32 ∷ rest

-- a word that isn't empty was taken from the rest of a line, up to the first space, which was taken too
pub record TakesWord (old : Option (List ℕ)) (word : List ℕ) (new : Option (List ℕ)) : Type 0 where
  pub some : word ≢ []
  pub first : IsSomeAnd old (λ line. word ≡ before_first (λ b. b == 32) line)
  pub rest : IsSomeAnd old (λ line. line ≡ word ++ tail_of new)

-- no word is left: the rest is missing, is empty or begins with a space
abbrev pub HasNoWord : Option (List ℕ) → Type 0
HasNoWord None = Unit {0}
HasNoWord (Some line) = before_first (λ b. b == 32) line ≡ []

-- a word of this kind was taken
pub record TakesWordOf (Is : List ℕ → Type 0) (old new : Option (List ℕ)) : Type 0 where
  pub word : List ℕ
  pub taken : TakesWord old word new
  pub kind : Is word

-- no word was left, or one that isn't of this kind was taken
abbrev pub TakesNoWordOf : (List ℕ → Type 0) → Option (List ℕ) → Option (List ℕ) → Type 0
TakesNoWordOf Is old new = HasNoWord old ⊎ ((word : List ℕ) × TakesWord old word new × (¬ Is word))
