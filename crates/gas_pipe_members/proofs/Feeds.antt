-- The steps of a feeder.
use Rattle.std.proofs.Common.{◌≡◌, ℕ, ◌+◌, ◌*◌, ◌%◌, ◌≤◌, ◌<◌, List, [], ◌∷◌, ◌++◌, length, ap, ◌∙◌, sym, subst, refl, take, drop, arith, add-one, append_assoc}
use Rattle.std.proofs.lemmas.List.{length-append, take_at, drop_at, take-append-le, take-append-drop, drop-drop}
use Rattle.std.proofs.Math.Nat.{mod-add-mod, suc-mul}
use Rattle.gas_geom.specs.Channel.{ChannelModel}
use Rattle.gas_rows.specs.Row.{RowModel}
use mathlib.Core.List.{IsPrefix}
use Rattle.gas_pipe_members.specs.Feeder.{FeederModel, MayHaveFed, emptied_row}
use Rattle.gas_pipe_members.specs.Inner.Queue.{emptied}
use Rattle.gas_pipe_members.proofs.Emptied.{emptied_from-append, drop-emptied}

emptied-snoc : (c : ChannelModel) (xs : List RowModel) (row : RowModel) → emptied c (xs ++ row ∷ []) ≡ emptied c xs ++ emptied_row c (length xs % c.height) row ∷ []
emptied-snoc c xs row =
    emptied_from-append c 0 xs (row ∷ [])
    ∙ ap (λ (k : ℕ). emptied c xs ++ emptied_row c (k % c.height) row ∷ []) (let e : 0 + length xs ≡ length xs = omega arith in e)

-- the next row came back
pub fed_take : (a b : FeederModel) (row : RowModel) → b.channel ≡ a.channel → b.rows ≡ a.rows ++ emptied_row a.channel a.next row ∷ [] →
    b.to_put ≡ a.to_put → b.to_take + 1 ≡ a.to_take → b.next ≡ (a.next + 1) % a.channel.height → b.stray ≡ a.stray → a.to_put < a.to_take →
    (passes : ℕ) (rows gave took : List RowModel) → MayHaveFed a passes rows gave took → MayHaveFed b passes rows gave (took ++ row ∷ [])
fed_take a b row channel items put take next stray some passes rows gave took h =
    let high : b.channel.height ≡ a.channel.height = ap (λ (c : ChannelModel). c.height) channel in
    let longer : length (took ++ row ∷ []) ≡ length took + 1 = length-append took (row ∷ []) in
    record {
      no_stray = stray ∙ h.no_stray;
      queue =
          ap (λ (l : List RowModel). gave ++ l) items
          ∙ sym (append_assoc gave a.rows (emptied_row a.channel a.next row ∷ []))
          ∙ ap (λ (l : List RowModel). l ++ emptied_row a.channel a.next row ∷ []) h.queue
          ∙ append_assoc rows (emptied a.channel took) (emptied_row a.channel a.next row ∷ [])
          ∙ ap (λ (k : ℕ). rows ++ (emptied a.channel took ++ emptied_row a.channel k row ∷ [])) h.next
          ∙ ap (λ (l : List RowModel). rows ++ l) (sym (emptied-snoc a.channel took row))
          ∙ ap (λ (c : ChannelModel). rows ++ emptied c (took ++ row ∷ [])) (sym channel);
      puts = ap (λ (n : ℕ). length gave + n) put ∙ h.puts ∙ ap (λ (n : ℕ). passes * n) (sym high);
      takes =
          (let e : length (took ++ row ∷ []) + b.to_take ≡ length took + a.to_take = omega (arith, longer, take) in e)
          ∙ h.takes ∙ ap (λ (n : ℕ). passes * n) (sym high);
      behind = omega (arith, longer, h.puts, h.takes, some);
      next =
          next ∙ ap (λ (k : ℕ). (k + 1) % a.channel.height) h.next ∙ mod-add-mod (length took) a.channel.height 1
          ∙ ap (λ (k : ℕ). k % a.channel.height) (sym longer) ∙ ap (λ (n : ℕ). length (took ++ row ∷ []) % n) (sym high);
    }

-- the next row was put
pub fed_put : (a b : FeederModel) (row : RowModel) (n : ℕ) → a ≡ record b { rows = row ∷ b.rows; to_put = b.to_put + 1; spares = n } →
    (passes : ℕ) (rows gave took : List RowModel) → MayHaveFed a passes rows gave took → MayHaveFed b passes rows (gave ++ row ∷ []) took
fed_put a b row n is passes rows gave took was =
    by (subst (λ (f : FeederModel). MayHaveFed f passes rows gave took) is was)
  where
    by : MayHaveFed (record b { rows = row ∷ b.rows; to_put = b.to_put + 1; spares = n }) passes rows gave took → MayHaveFed b passes rows (gave ++ row ∷ []) took
    by h = record {
      no_stray = h.no_stray;
      queue = append_assoc gave (row ∷ []) b.rows ∙ h.queue;
      puts = (let e : length (gave ++ row ∷ []) + b.to_put ≡ length gave + (b.to_put + 1) = omega (arith, length-append gave (row ∷ [])) in e) ∙ h.puts;
      takes = h.takes;
      behind = omega (arith, h.behind, length-append gave (row ∷ []));
      next = h.next;
    }

-- a list that begins xs ++ more and is no longer than xs begins xs
shorter_prefix : (gave queue xs more : List RowModel) → gave ++ queue ≡ xs ++ more → length gave ≤ length xs → IsPrefix gave xs
shorter_prefix gave queue xs more e short = (
  drop (length gave) xs,
  ap (λ (l : List RowModel). l ++ drop (length gave) xs)
      (sym (take_at gave queue (length gave) refl) ∙ ap (take (length gave)) e ∙ take-append-le (length gave) xs more short)
      ∙ take-append-drop (length gave) xs,
)

pub one_pass_prefix : (f : FeederModel) (rows gave took : List RowModel) → MayHaveFed f 1 rows gave took → length rows ≡ f.channel.height → IsPrefix gave rows
one_pass_prefix f rows gave took h high =
    shorter_prefix gave f.rows rows (emptied f.channel took) h.queue (omega (arith, h.puts, high))

-- the passes are closed
module _ (f : FeederModel) (passes : ℕ) (rows gave took : List RowModel) (h : MayHaveFed f passes rows gave took) (over : f.to_take ≡ 0) where
  pub fed_taken : length took ≡ passes * f.channel.height
  fed_taken = omega (arith, h.takes, over)

  pub fed_given : length gave ≡ passes * f.channel.height
  fed_given = omega (arith, h.puts, h.takes, h.behind, over)

  pub fed_gave : gave ≡ take (passes * f.channel.height) (rows ++ emptied f.channel took)
  fed_gave = sym (take_at gave f.rows (passes * f.channel.height) fed_given) ∙ ap (take (passes * f.channel.height)) h.queue

  pub fed_holds : f.rows ≡ drop (passes * f.channel.height) (rows ++ emptied f.channel took)
  fed_holds = sym (drop_at gave f.rows (passes * f.channel.height) fed_given) ∙ ap (drop (passes * f.channel.height)) h.queue

-- its rows in the end are the last that came back
pub fed_last : (f : FeederModel) (n : ℕ) (rows gave took : List RowModel) → MayHaveFed f (n + 1) rows gave took → length rows ≡ f.channel.height → f.to_take ≡ 0 →
    f.rows ≡ emptied f.channel (drop (n * f.channel.height) took)
fed_last f n rows gave took h high over =
    let e : (n + 1) * f.channel.height ≡ length rows + n * f.channel.height = omega (arith, high, suc-mul n f.channel.height, add-one n) in
    fed_holds f (n + 1) rows gave took h over
    ∙ ap (λ (m : ℕ). drop m (rows ++ emptied f.channel took)) e
    ∙ sym (drop-drop (n * f.channel.height) (length rows) (rows ++ emptied f.channel took))
    ∙ ap (drop (n * f.channel.height)) (drop_at rows (emptied f.channel took) (length rows) refl)
    ∙ drop-emptied f.channel n took

pub one_pass_holds : (f : FeederModel) (rows gave took : List RowModel) → MayHaveFed f 1 rows gave took → length rows ≡ f.channel.height → f.to_take ≡ 0 → f.rows ≡ emptied f.channel took
one_pass_holds f rows gave took h high over =
    fed_last f 0 rows gave took h high over ∙ ap (λ (m : ℕ). emptied f.channel (drop m took)) (let e : 0 * f.channel.height ≡ 0 = omega arith in e)

pub ruleset feeds = (fed_take, fed_put)
