-- Lists that begin another, and one more row of it.
use Rattle.std.proofs.Common.{◌≡◌, suc, ◌≤◌, ◌<◌, List, [], ◌∷◌, ◌++◌, length, take, drop, refl, ap, sym, ◌∙◌, append_assoc, arith, length-append}
use Rattle.std.proofs.lemmas.List.{append-nil, drop_at}
use Rattle.gas_rows.specs.Row.{RowModel}
use mathlib.Core.List.{IsPrefix}

pub same_prefix : (xs : List RowModel) → IsPrefix xs xs
same_prefix xs = ([], append-nil xs)

pub trans_prefix : (xs ys zs : List RowModel) → IsPrefix xs ys → IsPrefix ys zs → IsPrefix xs zs
trans_prefix xs ys zs p q = (
  p.0 ++ q.0,
  sym (append_assoc xs p.0 q.0) ∙ ap (λ v. v ++ q.0) p.1 ∙ q.1,
)

pub prefix_length : (xs ys : List RowModel) → IsPrefix xs ys → length xs ≤ length ys
prefix_length xs ys p = omega (arith, length-append xs p.0, ap length p.1)

-- one more row
abbrev pub next : List RowModel → List RowModel → List RowModel
next xs ys = take 1 (drop (length xs) ys)

next_of : (xs rest : List RowModel) → length xs < length (xs ++ rest) → IsPrefix (xs ++ next xs (xs ++ rest)) (xs ++ rest) × (length (xs ++ next xs (xs ++ rest)) ≡ suc (length xs))
next_of xs [] h = absurd (omega (arith, length-append xs []))
next_of xs (r ∷ rs) h =
    let e : next xs (xs ++ r ∷ rs) ≡ r ∷ [] = ap (take 1) (drop_at xs (r ∷ rs) (length xs) refl) in
    rw e ((rs, append_assoc xs (r ∷ []) rs), omega (arith, length-append xs (r ∷ [])))

pub next_prefix : (xs ys : List RowModel) → IsPrefix xs ys → length xs < length ys → IsPrefix (xs ++ next xs ys) ys
next_prefix xs ys p h = rw (← p.1) (next_of xs p.0 (rw p.1 h)).0

pub next_length : (xs ys : List RowModel) → IsPrefix xs ys → length xs < length ys → length (xs ++ next xs ys) ≡ suc (length xs)
next_length xs ys p h = rw (← p.1) (next_of xs p.0 (rw p.1 h)).1

prefix_whole : (xs rest ys : List RowModel) → xs ++ rest ≡ ys → length xs ≡ length ys → xs ≡ ys
prefix_whole xs [] ys e h = sym (append-nil xs) ∙ e
prefix_whole xs (r ∷ rs) ys e h = absurd (omega (arith, length-append xs (r ∷ rs), ap length e))

-- a prefix as long as the whole is the whole
pub prefix_all : (xs ys : List RowModel) → IsPrefix xs ys → length xs ≡ length ys → xs ≡ ys
prefix_all xs ys p h = prefix_whole xs p.0 ys p.1 h
