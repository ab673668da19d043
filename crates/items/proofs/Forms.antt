-- Valid items are the items that stand in forms.
use Rattle.std.proofs.Common.{◌≡◌, [], ◌++◌, sym, refl, ap, ◌∙◌, subst, subst₂, append_assoc}
use mathlib.Core.List.{append_cancel_right}
use Rattle.grammar.specs.Grammar.{rule}
use Rattle.grammar.proofs.Sizes.{sizes}
use Rattle.items.specs.Items.{onto, Valid}
use Rattle.items.specs.Statements.{ItemsSound, ItemsComplete, ItemsGoOn}
use Rattle.items.proofs.Stacks.{onto_join, onto_back}
use Rattle.items.proofs.Items.{valid_rule, done_part, advanced_by}
use Rattle.items.proofs.Sound.{sound, sound_row}
use Rattle.items.proofs.GoOn.{item_in_text}
use Rattle.items.proofs.Complete.{complete}

pub items_sound_lem : ItemsSound
unfolding ItemsSound
items_sound_lem g γ r β t h v =
    let s = sizes g h in
    let a = sound g s v in
    let p = done_part v in
    let e : onto γ [] ++ β ≡ (onto a.under [] ++ p.0) ++ β =
    sym (sound_row a) ∙ ap (λ k. onto a.under [] ++ k) p.1 ∙ sym (append_assoc (onto a.under []) p.0 β) in
    record {
      before = onto a.under [];
      done = p.0;
      behind = a.more;
      rules = a.rules;
      is_rule = valid_rule s.rules v;
      parts = p.1;
      stack = append_cancel_right (onto γ []) (onto a.under [] ++ p.0) β e;
      ahead = a.looks;
      forms = a.forms;
    }

pub items_complete_lem : ItemsComplete
unfolding ItemsComplete
items_complete_lem g γ r β t h i =
    let v = complete g (sizes g h) i.rules i.before (rule g r).left i.behind r i.forms i.is_rule refl in
    let v₁ = advanced_by i.done (subst₂ (λ k u. Valid g (onto i.before []) r k u) i.parts i.ahead v) in
    let e : onto i.done (onto i.before []) ≡ γ =
    sym (onto_join i.before i.done []) ∙ ap (λ k. onto k []) (sym i.stack) ∙ onto_back γ in
    subst (λ k. Valid g k r β t) e v₁

pub items_go_on_lem : ItemsGoOn
unfolding ItemsGoOn
items_go_on_lem g γ r β t h useful v = item_in_text g (sizes g h) useful v
