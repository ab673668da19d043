-- The item set of a configuration is that of its stack, and every move keeps it so.
use Rattle.std.proofs.Common.{◌≡◌, ℕ, zero, suc, ◌+◌, ◌-◌, ◌<◌, Bool, true, false, eqb, ltb, List, [], ◌∷◌, length, get_or, set, sym, refl, ap, ◌∙◌, subst, arith}
use Rattle.std.proofs.lemmas.Bool.{ltb-true, eqb-true}
use Rattle.words.specs.Packed.{stacked}
use Rattle.words.proofs.PackedLaws.{stacked_push}
use Rattle.grammar.specs.Grammar.{pick, each, Sym, Grammar, rule}
use Rattle.grammar.specs.Spelling.{sym_spelled}
use Rattle.items.specs.Sets.{set_of, goto, reduce_at, shift_at}
use Rattle.parser.specs.Drive.{items_of, Config, Moved, shifted, reduced, stuck, full, pushed, shift_move, items_after, reduce_move, on_action, moved}
use Rattle.parser.specs.Drive.{start_config, ends, on_advanced, advance_for, advance_of}
use Rattle.parser.specs.DriveStatements.{Kept, ItemsAreKept}
use Rattle.grammar.proofs.Lists.{never}

-- codes spell symbols: the item set is that of the symbols
pub items_of_spelled : (g : Grammar) (γ : List Sym) → items_of g (each sym_spelled γ) ≡ set_of g γ
unfolding items_of set_of each
items_of_spelled g [] = refl
items_of_spelled g (x ∷ γ) = ap (goto g (sym_spelled x)) (items_of_spelled g γ)

pub start_kept : (g : Grammar) (room : ℕ) → Kept g (start_config g room)
unfolding start_config items_of stacked
start_kept g room = refl

-- a symbol pushed where the stack ends
pub items_pushed : (g : Grammar) (cells : List ℕ) (at code : ℕ) → at < length cells →
    items_of g (stacked (suc at) (set cells at code)) ≡ goto g code (items_of g (stacked at cells))
unfolding items_of
items_pushed g cells at code l = ap (items_of g) (stacked_push at code cells l)

-- after a reduction, whether it popped or not
pub items_after_is : (g : Grammar) (c : Config) (n at code : ℕ) → Kept g c → at ≡ c.height - n → at < length c.cells →
    items_after g c n at code ≡ items_of g (stacked (suc at) (set c.cells at code))
items_after_is g c n at code k e l = go (eqb n 0) refl
  where
    go : (b : Bool) → eqb n 0 ≡ b →
        pick b (goto g code c.items) (items_of g (stacked (suc at) (set c.cells at code))) ≡ items_of g (stacked (suc at) (set c.cells at code))
    go true z =
        let n0 : n ≡ 0 = eqb-true n 0 z in
        let h : c.height ≡ at = omega arith in
        ap (goto g code) (k ∙ ap (λ i. items_of g (stacked i c.cells)) h) ∙ sym (items_pushed g c.cells at code l)
    go false z = refl

-- what a move comes to, if it comes to a configuration
unfoldable pub Keeps : Grammar → Moved → Type 0
Keeps g (shifted d) = Kept g d
Keeps g (reduced r d) = Kept g d
Keeps g stuck = Unit {0}
Keeps g full = Unit {0}

shift_keeps : (g : Grammar) (c : Config) (t : ℕ) → Kept g c → Keeps g (shift_move g c t)
unfolding shift_move Keeps
shift_keeps g c t k = go (ltb c.height (length c.cells)) refl
  where
    go : (b : Bool) → ltb c.height (length c.cells) ≡ b → Keeps g (pick b (shifted (pushed c c.height t (suc c.taken) (goto g t c.items))) full)
    go true e = ap (goto g t) k ∙ sym (items_pushed g c.cells c.height t (ltb-true c.height (length c.cells) e))
    go false e = tt

reduce_keeps : (g : Grammar) (c : Config) (r : ℕ) → Kept g c → Keeps g (reduce_move g c r)
unfolding reduce_move Keeps
reduce_keeps g c r k = go (ltb at (length c.cells)) refl
  where
    n : ℕ
    n = length (rule g r).right

    at : ℕ
    at = c.height - n

    go : (b : Bool) → ltb at (length c.cells) ≡ b →
        Keeps g (pick b (reduced r (pushed c at (32 + (rule g r).left) c.taken (items_after g c n at (32 + (rule g r).left)))) full)
    go true e = items_after_is g c n at (32 + (rule g r).left) k refl (ltb-true at (length c.cells) e)
    go false e = tt

action_keeps : (g : Grammar) (c : Config) (t : ℕ) (rs : List ℕ) → Kept g c → Keeps g (on_action g c t rs)
unfolding on_action Keeps
action_keeps g c t (r ∷ rs) k = reduce_keeps g c r k
action_keeps g c t [] k = go (shift_at g c.items t)
  where
    go : (b : Bool) → Keeps g (pick b (shift_move g c t) stuck)
    go true = shift_keeps g c t k
    go false = tt

pub moved_keeps : (g : Grammar) (ts : List ℕ) (c : Config) → Kept g c → Keeps g (moved g ts c)
unfolding moved
moved_keeps g ts c k = action_keeps g c (get_or ts c.taken 24) (reduce_at g c.items (get_or ts c.taken 24)) k

advance_keeps : (g : Grammar) (ts : List ℕ) (n : ℕ) (c d : Config) (r : ℕ) → Kept g c → advance_for n g ts c ≡ ends r d → Kept g d
unfolding advance_for on_advanced Keeps
advance_keeps g ts zero c d r k e = never (cc)
advance_keeps g ts (suc n) c d r k e = go (moved g ts c) (moved_keeps g ts c k) e (λ x. advance_keeps g ts n x d r)
  where
    go : (m : Moved) → Keeps g m → on_advanced (advance_for n g ts) m ≡ ends r d → ((x : Config) → Kept g x → advance_for n g ts x ≡ ends r d → Kept g d) → Kept g d
    go (shifted x) h e ih = ih x h e
    go (reduced q x) h e ih = let z : x ≡ d = cc in subst (λ y. Kept g y) z h
    go stuck h e ih = never (cc)
    go full h e ih = never (cc)

pub items_are_kept_lem : ItemsAreKept
unfolding ItemsAreKept advance_of
items_are_kept_lem g ts = (λ room. start_kept g room, λ c d r k e. advance_keeps g ts (suc (length ts)) c d r k e)
