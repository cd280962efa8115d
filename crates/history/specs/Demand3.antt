-- Demand 3: "For any sound image and any list of commands, at the start and after each one: every sector is in exactly one place, the free
-- count equals document 01's sum, a save is refused for room exactly when that sum is too small, every standing file reads as the history
-- says, every other legal name is absent." "a single claim about a run's whole list".
-- A run's steps are the definitions that the public calls' contracts are equations with: a library that meets its contracts does what the claim
-- says, and one that departs from the claim in any step breaks a contract.
-- Assumes nothing.
use Rattle.std.specs.Prelude.{◌≡◌, ℕ, ◌+◌, ◌≤◌, ◌<◌, Bool, true, false, ◌&&◌, List, [], ◌∷◌, length, take}
use Rattle.std.proofs.Math.Option.{some}
use Rattle.std.proofs.Math.ListN.{get_elem?}
use Rattle.lists.specs.Lists.{all, any, times}
use Rattle.format.specs.Refusals.{ABSENT, refused, ok, number}
use Rattle.format.specs.Geometry.{Format, Geometry, geometry, sectors, Disc, cut}
use Rattle.format.specs.Names.{stored}
use Rattle.format.specs.Layout.{free_count, chain_ends, directory_pointer, free_pointer, first_of, free, entries, places}
use Rattle.format.specs.Modules.{Module}
use Rattle.format.specs.Calls.{CheckAnswer, read_answer_by, after_read, after_save, after_check, after_blank}
use Rattle.history.specs.History.{Command, list, read, save, delete, rename, protect, check, view, File, Book, named, run, book_after, opening_book, says, sum_directory, sum_files, sum_free, save_says}

-- the check's answer for a sound image
abbrev pub is_sound : CheckAnswer
is_sound = record { number = 0; rule = 0 }

-- A transfer address has sixteen bits, as the call's type holds it. Nothing else is asked of the arguments.
abbrev pub Handed : Command → Type 0
Handed (list buffer) = Unit {0}
Handed (read name buffer) = Unit {0}
Handed (save name m buffer) = m.transfer < 65536
Handed (delete name buffer) = Unit {0}
Handed (rename old new buffer) = Unit {0}
Handed (protect name on buffer) = Unit {0}
Handed check = Unit {0}
Handed (view t s) = Unit {0}

-- so of each command of a list
abbrev pub AllHanded : List Command → Type 0
AllHanded [] = Unit {0}
AllHanded (c ∷ cs) = Handed c × AllHanded cs

-- "Places go by the image's chains, from pointer or first sector to the end link"
unfoldable pub all_end : Geometry → Disc → Bool
all_end G d = chain_ends G d (directory_pointer G d) && chain_ends G d (free_pointer G d) && all (λ s. chain_ends G d (first_of G s)) (entries G d)

-- What holds at one moment of a run from the image s on: the image is now `image`, the book b.
pub record Moment (F : Format) (G : Geometry) (s image : List ℕ) (b : Book) : Type 0 where
  pub size : length image ≡ length s
  pub checked : after_check F image ≡ is_sound
  -- "each sector but 0/1 is met exactly once by directory, files and free chain together, 0/1 (system) never"
  pub ending : all_end G (cut F G image) ≡ true
  pub once : (n : ℕ) → 0 < n → n < sectors G → times n (places G (cut F G image)) ≡ 1
  pub system_never : times 0 (places G (cut F G image)) ≡ 0
  -- "The number of free sectors is the free chain's length and the free count alike": the sum, also with no subtraction
  pub free_chain : length (free G (cut F G image)) ≡ sum_free G (cut F G s) b
  pub free_counted : free_count (cut F G image) ≡ sum_free G (cut F G s) b
  pub free_added : length (free G (cut F G image)) + 1 + sum_directory G (cut F G s) b + sum_files G (cut F G s) b ≡ sectors G
  -- of every save possible now, lent any buffer: it answers what the book says, so 8 exactly where the sum is smaller than the need
  pub saves : (name : List ℕ) (m : Module) (buffer : List ℕ)
      → (after_save F image name m buffer).number ≡ number (save_says G (cut F G s) b name m (length buffer))
  -- every file of the book, under every text that is stored as its name, and lent any buffer; and there is such a text
  pub reads : (i : ℕ) (f : File) → get_elem? b.files i ≡ some f → (typed buffer : List ℕ) → stored typed ≡ some f.name
      → after_read F image typed buffer ≡ read_answer_by buffer (says f.reading (length buffer))
  pub typable : (i : ℕ) (f : File) → get_elem? b.files i ≡ some f → (typed : List ℕ) × (stored typed ≡ some f.name)
  -- "A legal name not in the book gives 4."
  pub absent : (typed nine buffer : List ℕ) → stored typed ≡ some nine → any (named nine) b.files ≡ false
      → after_read F image typed buffer ≡ read_answer_by buffer (refused ABSENT)

-- The claim, over the whole list. F is what the caller states, "one throughout, in a run from the check of its start on" (document 02, k and m).
unfoldable pub Demand3 : Format → Type 0
Demand3 F =
    (s : List ℕ) (G : Geometry) → geometry F (length s) ≡ ok G → after_check F s ≡ is_sound
    → (cs : List Command) → AllHanded cs → (k : ℕ) → k ≤ length cs
    → Moment F G s (run F s (take k cs)) (book_after F (opening_book G (cut F G s)) s (take k cs))

-- "A blank disc is itself a start", stated as it was made.
unfoldable pub BlankStarts : Format → Type 0
BlankStarts F = (image name : List ℕ) → (after_blank F image name).number ≡ 0 → after_check F (after_blank F image name).image ≡ is_sound
