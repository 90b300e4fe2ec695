-- Lemmas about the values of the matches.
use Rattle.std.proofs.Common.{◌++◌, [], ◌∷◌, ◌≡◌, ℕ, List, Option, Some, None, ap, refl, sym, subst}
use Rattle.std.specs.Prelude.{Result, Ok, Err, IfSome, IsSomeAnd}
use Rattle.std.specs.Result.{result_ok}
use Rattle.std.specs.List.{AllZip}
use Rattle.std.specs.Str.Parse.{ParsesUnsigned, ExplainsUnsignedError, HasUnsignedDigitsIfOk}
use Rattle.std.specs.declared.num.ParseIntError.{ParseIntError}
use Rattle.clap.specs.Words.{Row, Text, ReadsOne, TriesOne, one_of, one_text, rows_of}
use Rattle.clap.specs.declared.parser.matches.Found.{Found}
use Rattle.clap.proofs.WalkLemmas.{one_text-rows}
use Rattle.gas_tool_cli.specs.Requests.{IsGivenAt, IsNumber, IsNumberAt}

-- what `get_one` ensures about a number
abbrev ParsesNumber : ℕ → List ℕ → Result ℕ ParseIntError → Type 0
ParsesNumber bits bs r = ParsesUnsigned bits 10 bs r × ExplainsUnsignedError 10 bs r × HasUnsignedDigitsIfOk bs r

number_by : (bits : ℕ) (f : Found) (id : List ℕ) (n : ℕ) (o : Option Text) → one_text f id ≡ o
    → (o ≡ None → Some n ≡ None) → ((t : List ℕ) → o ≡ Some t → ReadsOne (ParsesNumber bits) t (Some n)) → IsSomeAnd o (λ text. IsNumber bits text n)
number_by bits f id n None e none value = absurd (let bad : Some n ≡ None = none refl in cc)
number_by bits f id n (Some t) e none value = (value t refl).0

pub number_at : (bits : ℕ) (f : Found) (id : List ℕ) (n : ℕ)
    → (one_text f id ≡ None → Some n ≡ None) → ((t : List ℕ) → one_text f id ≡ Some t → ReadsOne (ParsesNumber bits) t (Some n)) → IsNumberAt bits (rows_of f) id n
number_at bits f id n none value =
    subst (λ (o : Option Text). IsSomeAnd o (λ text. IsNumber bits text n)) (one_text-rows f id)
    (number_by bits f id n (one_text f id) refl none value)

-- what `try_get_one` ensures about a number of 32 bits, once it is no error
abbrev Tries : Option Text → Result (Option ℕ) ParseIntError → Type 0
Tries None r = r ≡ Ok None
Tries (Some t) r = TriesOne (ParsesNumber 32) t r

given_by : (rows : List Row) (id : Text) (o : Option Text) (r : Result (Option ℕ) ParseIntError) → one_of id rows ≡ o → Tries o r
    → IfSome (result_ok r) (IsGivenAt rows id)
given_by rows id None (Err e) there tries = tt
given_by rows id None (Ok None) there tries = there
given_by rows id None (Ok (Some n)) there tries = absurd (let bad : Some (Some n) ≡ Some None = ap result_ok tries in cc)
given_by rows id (Some t) (Err e) there tries = tt
given_by rows id (Some t) (Ok None) there tries = absurd tries
given_by rows id (Some t) (Ok (Some n)) there tries = subst (λ (o : Option Text). IsSomeAnd o (λ text. IsNumber 32 text n)) (sym there) tries.0

pub given_at : (f : Found) (id : Text) (r : Result (Option ℕ) ParseIntError) (g : Option (Option ℕ)) → g ≡ result_ok r
    → (one_text f id ≡ None → r ≡ Ok None) → ((t : List ℕ) → one_text f id ≡ Some t → TriesOne (ParsesNumber 32) t r) → IfSome g (IsGivenAt (rows_of f) id)
given_at f id r g is none value =
    subst (λ (g : Option (Option ℕ)). IfSome g (IsGivenAt (rows_of f) id)) (sym is)
    (given_by (rows_of f) id (one_text f id) r (sym (one_text-rows f id)) (tries (one_text f id) refl))
  where
    tries : (o : Option Text) → one_text f id ≡ o → Tries o r
    tries None e = none e
    tries (Some t) e = value t e

-- what is true of two lists, place by place, and of one more item of each, is true of the lists with these items
pub all_zip_push : {X Y : Type 0} (R : X → Y → Type 0) (xs : List X) (ys : List Y) (x : X) (y : Y) → AllZip R xs ys → R x y → AllZip R (xs ++ x ∷ []) (ys ++ y ∷ [])
all_zip_push R [] [] x y all one = (one, tt)
all_zip_push R [] (z ∷ ys) x y all one = absurd all
all_zip_push R (z ∷ xs) [] x y all one = absurd all
all_zip_push R (z ∷ xs) (w ∷ ys) x y all one = (all.0, all_zip_push R xs ys x y all.1 one)
