use Rattle.std.proofs.Common.{◌≡◌, ◌+◌, ◌<◌, ◌++◌, ◌∷◌, ◌∙◌, ℕ, suc, [], List, map, take, length, sym, ap, subst, arith}
use Rattle.std.specs.List.{slice_index_or}
use Rattle.std.proofs.Math.Seq.{take-suc}
use Rattle.std.proofs.lemmas.List.{get_or-map, length-map}
use Rattle.gas_tool_cli.specs.Requests.{IsNumber}
use Rattle.gas_tool_cli.proofs.Values.{all_zip_push}
use Rattle.gas_tool_cli.proofs.matches.parse_numbers.Goals as goal

pub loop-word-preserved : goal.loop-word-preserved
loop-word-preserved c =
    let words = c.args.words.now in
    let texts : List (List ℕ) = map (λ w. w.now) words in
    let i : ℕ = c.loop-word.word-index in
    let text = get_or-map (λ w. w.now) words i (record { ref_ptr = (0, 0); now = [] }) [] c.loop-word-test.true in
    let inside : i < length texts = subst (λ n. i < n) (sym (length-map words (λ w. w.now))) c.loop-word-test.true in
    let more : take (i + 1) texts ≡ take i texts ++ slice_index_or texts i [] ∷ [] =
    ap (λ n. take n texts) (let e : i + 1 ≡ suc i = omega arith in e) ∙ take-suc texts i [] inside in
    rw (c.in_ok-push.ensures.items, more)
    (all_zip_push (IsNumber 32) (take i texts) c.loop-word.numbers.items (slice_index_or texts i []) c.in-Ok.number c.loop-word.invariant
    (subst (λ t. IsNumber 32 t c.in-Ok.number) (sym text) c.in-Ok.ensures.value.0))
