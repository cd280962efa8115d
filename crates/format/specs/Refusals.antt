-- Document 01, 'Refusal numbers': answers that stop at the first refusal that applies, and the numbers.
-- Assumes nothing.
use Rattle.std.specs.Prelude.{ℕ, Bool, true, false}
use Rattle.std.proofs.Math.Option.{Option, none, some}

-- The table's names, and those that "join document 01's table" (document 02). There are no other refusals.
pub data Refusal : Type 0 where
  SIZE NAME UNSOUND ABSENT TAKEN PROTECTED MODULE ROOM NOT-PLAIN SHORT NO-SECTOR BAD-SHEET TOTAL BAD-LIST : Refusal

-- The table's numbers.
abbrev pub number_of : Refusal → ℕ
number_of SIZE = 1
number_of NAME = 2
number_of UNSOUND = 3
number_of ABSENT = 4
number_of TAKEN = 5
number_of PROTECTED = 6
number_of MODULE = 7
number_of ROOM = 8
number_of NOT-PLAIN = 9
number_of SHORT = 10
number_of NO-SECTOR = 11
number_of BAD-SHEET = 12
number_of TOTAL = 13
number_of BAD-LIST = 14

-- "Order, first that applies": a refusal for the reason e, or a value. A command's order is a do-block, read from the top.
pub data Try (E A : Type 0) : Type 0 where
  refused : E → Try E A
  ok : A → Try E A

infixl 1 ◌>>=◌
infixl 1 ◌>>◌
infix 5 refuse◌if◌
infix 5 ◌or_refuse◌
-- what follows a value
unfoldable pub ◌>>=◌ : {E A B : Type 0} → Try E A → (A → Try E B) → Try E B
refused e >>= f = refused e
ok a >>= f = f a

-- what follows a test
unfoldable pub ◌>>◌ : {E A B : Type 0} → Try E A → Try E B → Try E B
refused e >> t = refused e
ok a >> t = t

-- refused for the reason e where the test holds
unfoldable pub refuse◌if◌ : {E : Type 0} → E → Bool → Try E (Unit {0})
refuse◌if◌ e true = refused e
refuse◌if◌ e false = ok tt

-- a value that may be missing, or the refusal e
unfoldable pub ◌or_refuse◌ : {E A : Type 0} → Option A → E → Try E A
none or_refuse e = refused e
some a or_refuse e = ok a

-- "0 is done."
unfoldable pub number : {A : Type 0} → Try Refusal A → ℕ
number (refused e) = number_of e
number (ok a) = 0

-- the value, or d with a refusal
unfoldable pub value_or : {E A : Type 0} → A → Try E A → A
value_or d (refused e) = d
value_or d (ok a) = a

-- no refusal applies
abbrev pub IsOk : {E A : Type 0} → Try E A → Type 0
IsOk (refused e) = ⊥
IsOk (ok a) = Unit {0}
