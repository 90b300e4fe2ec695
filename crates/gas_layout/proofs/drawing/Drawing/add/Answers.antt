use Rattle.std.proofs.Common.{◌<◌, length, length-set, rules, ◌∙◌, ◌++◌, ◌∷◌, [], List, Vec, Global, ap, sym, subst, arith}
use Rattle.std.specs.Prelude.{Result, Ok, Err, OnErr}
use Rattle.std.proofs.lemmas.List.{length-map}
use Rattle.gas_layout.specs.declared.drawing.Strip.{Strip}
use Rattle.gas_layout.specs.Layout.{channel_of}
use Rattle.gas_layout.specs.Inner.Strips.{AreStrips, is_drawn, strips_of}
use Rattle.gas_layout.proofs.Strips.{strips-same, strips-more}
use Rattle.gas_layout.proofs.Drawn.{AreStrips-added, drawn-added}
use Rattle.gas_layout.proofs.drawing.Drawing.add.Goals as goal

-- what is true for either result
OnErr-always : {T E P : Type 0} (r : Result T E) → P → OnErr r P
OnErr-always (Ok x) p = tt
OnErr-always (Err e) p = p

pub invariant_of-self : goal.invariant_of-self
invariant_of-self c =
    let rows = c.self.inside.rows.items in
    let within : c.first_row.result < length rows = search rules in
    record {
      high = length-set rows c.first_row.result c.push.new.self ∙ c.self.invariant.high;
      strips = subst (AreStrips c.self.inside.size.width)
          (sym (strips-same rows c.first_row.result c.push.new.self c.index_mut-row.result.now within
          (c.in_err-push.ensures.items ∙ ap (λ (v : Vec Strip Global). v.items) c.index_mut-row.ensures.value))) c.self.invariant.strips;
    }

pub returns-in_err-push-clause-refused : goal.returns-in_err-push-clause-refused
returns-in_err-push-clause-refused c =
    let rows = c.self.inside.rows.items in
    let within : c.first_row.result < length rows = search rules in
    OnErr-always c.from_residual.result
    (ap (λ (ss : List (List Strip)). channel_of c.self.inside.size.width c.self.inside.size.height (is_drawn ss))
    (strips-same rows c.first_row.result c.push.new.self c.index_mut-row.result.now within
    (c.in_err-push.ensures.items ∙ ap (λ (v : Vec Strip Global). v.items) c.index_mut-row.ensures.value)) ∙ c.self.view_is)

pub invariant_of-self-2 : goal.invariant_of-self-2
invariant_of-self-2 c =
    let rows = c.self.inside.rows.items in
    let within : c.first_row.result < length rows = search rules in
    record {
      high = length-set rows c.first_row.result c.push.new.self ∙ c.self.invariant.high;
      strips = subst (AreStrips c.self.inside.size.width)
          (sym (strips-more rows c.first_row.result c.push.new.self c.index_mut-row.result.now within c.of.result
          (c.in_ok-push.ensures.items ∙ ap (λ (v : Vec Strip Global). v.items ++ c.of.result ∷ []) c.index_mut-row.ensures.value)))
          (AreStrips-added c.self.inside.size.width c.self.inside.size.height (strips_of rows) c.args.rectangle
          c.args.self.now c.first_row.result c.of.result c.self.view_is c.requires.fits c.self.invariant.strips c.first_row.ensures c.of.ensures
          (omega (arith, within, length-map rows (λ v. v.items))));
    }

pub returns-clause-added : goal.returns-clause-added
returns-clause-added c = λ w h rs e.
    let rows = c.self.inside.rows.items in
    let within : c.first_row.result < length rows = search rules in
    ap (λ (ss : List (List Strip)). channel_of c.self.inside.size.width c.self.inside.size.height (is_drawn ss))
    (strips-more rows c.first_row.result c.push.new.self c.index_mut-row.result.now within c.of.result
    (c.in_ok-push.ensures.items ∙ ap (λ (v : Vec Strip Global). v.items ++ c.of.result ∷ []) c.index_mut-row.ensures.value))
    ∙ drawn-added c.self.inside.size.width c.self.inside.size.height (strips_of rows) c.args.rectangle
    c.args.self.now c.first_row.result c.of.result c.self.view_is c.requires.fits c.self.invariant.strips c.first_row.ensures c.of.ensures
    (omega (arith, within, length-map rows (λ v. v.items))) w h rs e
