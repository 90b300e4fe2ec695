-- Words ask for at most one request.
use Rattle.std.proofs.Common.{rules, nat_eq, false, [], ◌∷◌, ◌≡◌, ◌≢◌, ◌∙◌, ℕ, List, Option, Some, None, ap, ap₂, refl, sym, map, arith}
use Rattle.std.specs.Prelude.{Ok, Err, IsSomeAnd, codes, slice_index_or, unwrap_or}
use Rattle.std.specs.List.{AllZip}
use Rattle.std.specs.String.{string_bytes}
use Rattle.std.specs.Vec.Iter.{into_iter_items}
use Rattle.clap.specs.Words.{Row, Text, all_of, one_of, subcommand_of}
use Rattle.gas_tool_cli.specs.Words.{program_app}
use Rattle.gas_tool_cli.specs.Requests.{AskFor, IsGivenAt, IsNumber, IsNumberOr, IsPlanAt, IsRequestOf, Words, default_capacity, default_stages}
use Rattle.gas_tool_cli.specs.declared.words.Request.{Request}
use Rattle.gas_tool_cli.specs.declared.words.Request.TheVariants.{Check, Run, Coarse, Replay}

-- a text is at most one number
same_number : (bits : ℕ) (o : Option Text) (m n : ℕ) → IsSomeAnd o (λ text. IsNumber bits text m) → IsSomeAnd o (λ text. IsNumber bits text n) → m ≡ n
same_number bits None m n a b = absurd a
same_number bits (Some text) m n a b = a.1 ∙ sym b.1

not_given : (o : Option Text) (n : ℕ) → o ≡ None → IsSomeAnd o (λ text. IsNumber 32 text n) → ⊥
not_given None n none number = number
not_given (Some text) n none number = let bad : Some text ≡ None = none in cc

same_given : (rows : List Row) (id : Text) (g h : Option ℕ) → IsGivenAt rows id g → IsGivenAt rows id h → g ≡ h
same_given rows id None None a b = refl
same_given rows id None (Some n) a b = absurd (not_given (one_of id rows) n a b)
same_given rows id (Some m) None a b = absurd (not_given (one_of id rows) m b a)
same_given rows id (Some m) (Some n) a b = ap Some (same_number 32 (one_of id rows) m n a b)

same_or_default : (default : ℕ) (rows : List Row) (id : Text) (m n : ℕ) → IsNumberOr default rows id m → IsNumberOr default rows id n → m ≡ n
same_or_default default rows id m n a b = a.2 ∙ ap (λ g. unwrap_or g default) (same_given rows id a.0 b.0 a.1 b.1) ∙ sym b.2

same_turns : (texts : List Text) (xs ys : List ℕ) → AllZip (IsNumber 32) texts xs → AllZip (IsNumber 32) texts ys → xs ≡ ys
same_turns [] [] [] a b = refl
same_turns [] [] (y ∷ ys) a b = absurd b
same_turns [] (x ∷ xs) ys a b = absurd a
same_turns (text ∷ texts) [] ys a b = absurd a
same_turns (text ∷ texts) (x ∷ xs) [] a b = absurd b
same_turns (text ∷ texts) (x ∷ xs) (y ∷ ys) a b = ap₂ (λ (n : ℕ) (ns : List ℕ). n ∷ ns) (a.0.1 ∙ sym b.0.1) (same_turns texts xs ys a.1 b.1)

-- the plans of the same rows and the same number of threads have the same numbers
same_plan : (rows : List Row) (threads : Option ℕ) (s c g s' c' g' : ℕ) → IsPlanAt rows threads s c g → IsPlanAt rows threads s' c' g' → (s ≡ s') × (c ≡ c') × (g ≡ g')
same_plan rows threads s c g s' c' g' a b =
    let generations : g ≡ g' = same_number 64 (one_of (codes "generations") rows) g g' a.generations_at b.generations_at in (
      same_or_default (default_stages threads g) rows (codes "stages") s s' a.stages_at (rw (generations) b.stages_at),
      same_or_default (default_capacity threads) rows (codes "capacity") c c' a.capacity_at b.capacity_at,
      generations,
    )

-- the second letters of the subcommands differ, so a name is the name of one of them
two_names : (name a b : Text) → name ≡ a → name ≡ b → slice_index_or a 1 0 ≢ slice_index_or b 1 0 → ⊥
two_names name a b is_a is_b other = other (ap (λ (t : Text). slice_index_or t 1 0) (sym is_a ∙ is_b))

same_request : (sub : Text × List Row) (a b : Request) → IsRequestOf (Some sub) a → IsRequestOf (Some sub) b → a ≡ b
same_request sub Check Check a b = refl
same_request sub Check (Run s c g t) a b = absurd (two_names sub.0 _ _ a b.0 (λ e. omega (arith, e)))
same_request sub Check (Coarse s c g t w h) a b = absurd (two_names sub.0 _ _ a b.0 (λ e. omega (arith, e)))
same_request sub Check (Replay s c g t) a b = absurd (two_names sub.0 _ _ a b.0 (λ e. omega (arith, e)))
same_request sub (Run s c g t) Check a b = absurd (two_names sub.0 _ _ a.0 b (λ e. omega (arith, e)))
same_request sub (Run s c g t) (Coarse s' c' g' t' w' h') a b = absurd (two_names sub.0 _ _ a.0 b.0 (λ e. omega (arith, e)))
same_request sub (Run s c g t) (Replay s' c' g' t') a b = absurd (two_names sub.0 _ _ a.0 b.0 (λ e. omega (arith, e)))
same_request sub (Coarse s c g t w h) Check a b = absurd (two_names sub.0 _ _ a.0 b (λ e. omega (arith, e)))
same_request sub (Coarse s c g t w h) (Run s' c' g' t') a b = absurd (two_names sub.0 _ _ a.0 b.0 (λ e. omega (arith, e)))
same_request sub (Coarse s c g t w h) (Replay s' c' g' t') a b = absurd (two_names sub.0 _ _ a.0 b.0 (λ e. omega (arith, e)))
same_request sub (Replay s c g t) Check a b = absurd (two_names sub.0 _ _ a.0 b (λ e. omega (arith, e)))
same_request sub (Replay s c g t) (Run s' c' g' t') a b = absurd (two_names sub.0 _ _ a.0 b.0 (λ e. omega (arith, e)))
same_request sub (Replay s c g t) (Coarse s' c' g' t' w' h') a b = absurd (two_names sub.0 _ _ a.0 b.0 (λ e. omega (arith, e)))
same_request sub (Run s c g t) (Run s' c' g' t') a b =
    let threads : t ≡ t' = same_given sub.1 (codes "threads") t t' a.1 b.1 in
    let plan = same_plan sub.1 t s c g s' c' g' a.2 (rw (threads) b.2) in
    let stages : s ≡ s' = plan.0 in
    let capacity : c ≡ c' = plan.1 in
    let generations : g ≡ g' = plan.2 in
    cc
same_request sub (Coarse s c g t w h) (Coarse s' c' g' t' w' h') a b =
    let threads : t ≡ t' = same_given sub.1 (codes "threads") t t' a.1 b.1 in
    let plan = same_plan sub.1 t s c g s' c' g' a.2 (rw (threads) b.2) in
    let stages : s ≡ s' = plan.0 in
    let capacity : c ≡ c' = plan.1 in
    let generations : g ≡ g' = plan.2 in
    let width : w ≡ w' = same_number 32 (one_of (codes "block-width") sub.1) w w' a.3.0 b.3.0 in
    let height : h ≡ h' = same_number 32 (one_of (codes "block-height") sub.1) h h' a.4.0 b.4.0 in
    cc
same_request sub (Replay s c g t) (Replay s' c' g' t') a b =
    let plan = same_plan sub.1 None s c g s' c' g' a.1 b.1 in
    let stages : s ≡ s' = plan.0 in
    let capacity : c ≡ c' = plan.1 in
    let generations : g ≡ g' = plan.2 in
    let turns : t ≡ t' = same_turns (unwrap_or (all_of (codes "turns") sub.1) []) t t' a.2 b.2 in
    cc

pub one_entered : (sub : Option (Text × List Row)) (a b : Request) → IsRequestOf sub a → IsRequestOf sub b → a ≡ b
one_entered None a b is_a is_b = absurd is_a
one_entered (Some sub) a b is_a is_b = same_request sub a b is_a is_b

pub one_asked : (words : Words) (a b : Request) → AskFor words a → AskFor words b → a ≡ b
one_asked (Ok all) a b is_a is_b = one_entered (subcommand_of program_app (map string_bytes (into_iter_items all))) a b is_a is_b
one_asked (Err error) a b is_a is_b = absurd is_a

-- what asks for a request asks for no other
pub not_asked : (sub : Option (Text × List Row)) (a b : Request) → IsRequestOf sub a → (a ≡ b → ⊥) → IsRequestOf sub b → ⊥
not_asked sub a b is_a differ is_b = differ (one_entered sub a b is_a is_b)

pub apart : (m n : ℕ) → nat_eq m n ≡ false → m ≡ n → ⊥
apart m n unequal same = search rules
