-- The next state of a list is one state, and it is its own next one.
use Rattle.std.proofs.Common.{◌≡◌, ℕ, zero, suc, ◌+◌, ◌-◌, ◌<◌, ◌≤◌, ◌||◌, ⊎_elim, inl, inr, min, nat_lt, nat_le, Bool}
use Rattle.std.proofs.Common.{true, false, if◌then◌else◌, List, [], ◌∷◌, length, Option, Some, None, refl, sym, ap, subst, ◌∙◌}
use Rattle.std.proofs.Common.{arith}
use Rattle.std.proofs.lemmas.Bool.{cases_lt}
use Rattle.std.proofs.lemmas.Bool.Decides.{nat_tests}
use Rattle.widget_list.specs.{declared.item.ListItem.ListItem, declared.list.List.List as ListData}
use Rattle.widget_list.specs.{declared.state.ListState.ListState}
use Rattle.widget_list.specs.Windows.{rows_before, Fit, IsFirst, IsPadding, IsScrolled, IsOffset}
use Rattle.widget_list.specs.Windows.{first_kept, last_kept, last_item}
use Rattle.widget_list.specs.Items.{at_most, IsNextListState, ShowsList}
use Rattle.widget_list.specs.Settled.{first_passing, largest_passing, do_fit, padding_of, scrolled_from, list_offset}
use Rattle.widget_list.specs.Settled.{next_list_state}
use Rattle.widget_list.proofs.WindowLemmas.{rows-grow}
use Rattle.widget_list.proofs.SettledFrameLemmas.{LeadsOn}

-- the first number that passes a test
pub record IsFirstPassing (test : ℕ → Bool) (k more first : ℕ) : Type 0 where
  pub from : k ≤ first
  pub to : first ≤ k + more
  pub passes : first < k + more → test first ≡ true
  pub nearest : (j : ℕ) → k ≤ j → j < first → test j ≡ false

first-made-step : (test : ℕ → Bool) (k more : ℕ) (b : Bool) → test k ≡ b
    → IsFirstPassing test (k + 1) more (first_passing test (k + 1) more)
    → IsFirstPassing test k (suc more) (if b then k else first_passing test (k + 1) more)
first-made-step test k more true is rest = record {
  from = omega arith;
  to = omega arith;
  passes = λ _. is;
  nearest = λ j a b. absurd (omega arith);
}
first-made-step test k more false is rest =
    let from = rest.from in let to = rest.to in
    record {
      from = omega arith;
      to = omega arith;
      passes = λ lt. rest.passes (omega arith);
      nearest = λ j a b.
          ⊎_elim (λ (lt : k < j). rest.nearest j (omega arith) b)
          (λ (ge : j ≤ k). let at : k ≡ j = omega arith in subst (λ i. test i ≡ false) at is) (cases_lt k j);
    }

pub first-made : (test : ℕ → Bool) (k more : ℕ) → IsFirstPassing test k more (first_passing test k more)
first-made test k zero = record {
  from = omega arith;
  to = omega arith;
  passes = λ lt. absurd (omega arith);
  nearest = λ j a b. absurd (omega arith);
}
first-made test k (suc more) = first-made-step test k more (test k) refl (first-made test (k + 1) more)

-- and the largest one
record IsLargestPassing (test : ℕ → Bool) (n p : ℕ) : Type 0 where
  most : p ≤ n
  passes : 0 < p → test p ≡ true
  largest : (k : ℕ) → k ≤ n → test k ≡ true → k ≤ p

largest-made-step : (test : ℕ → Bool) (n : ℕ) (b : Bool) → test (suc n) ≡ b → IsLargestPassing test n (largest_passing test n)
    → IsLargestPassing test (suc n) (if b then suc n else largest_passing test n)
largest-made-step test n true is rest = record { most = omega arith; passes = λ _. is; largest = λ k le _. le }
largest-made-step test n false is rest =
    let most = rest.most in
    record {
      most = omega arith;
      passes = rest.passes;
      largest = λ k le passed.
          ⊎_elim (λ (lt : k < suc n). rest.largest k (omega arith) passed)
          (λ (ge : suc n ≤ k).
          let at : k ≡ suc n = omega arith in
          let no : false ≡ true = sym is ∙ subst (λ j. test j ≡ true) at passed in absurd (cc))
          (cases_lt k (suc n));
    }

largest-made : (test : ℕ → Bool) (n : ℕ) → IsLargestPassing test n (largest_passing test n)
largest-made test zero = record { most = omega arith; passes = λ lt. absurd (omega arith); largest = λ k le _. le }
largest-made test (suc n) = largest-made-step test n (test (suc n)) refl (largest-made test n)

-- whether items fit
pub fit-test : (a b : ℕ) → a ≤ b → nat_le a b ≡ true
fit-test a b le = grind (arith, nat_tests)

pub test-fit : (a b : ℕ) → nat_le a b ≡ true → a ≤ b
test-fit a b is = grind (arith, nat_tests)

pub test-over : (a b : ℕ) → nat_le a b ≡ false → b < a
test-over a b is = grind (arith, nat_tests)

-- where a list begins is one item
padding-least : (items : List ListItem) (height asked selected a b : ℕ) → IsPadding items height asked selected a
    → IsPadding items height asked selected b → a ≤ b
padding-least items height asked selected a b one two =
    ⊎_elim (λ (some : 0 < a). two.largest a one.asked_for (one.fits some)) (λ (none : a ≤ 0). omega arith) (cases_lt 0 a)

first-least : (items : List ListItem) (height least last a b : ℕ) → IsFirst items height least last a
    → IsFirst items height least last b → a ≤ b
first-least items height least last a b one two =
    ⊎_elim
    (λ (lt : b < a). let over = one.nearest b two.from lt in let to = one.to in let fit = two.fits (omega arith) in absurd (omega arith))
    (λ (ge : a ≤ b). ge)
    (cases_lt b a)

scrolled-one : (items : List ListItem) (height first last was a b : ℕ) → IsScrolled items height first last was a
    → IsScrolled items height first last was b → a ≡ b
scrolled-one items height first last was a b one two =
    ⊎_elim (λ (far : last < was). one.up (inl far) ∙ sym (two.up (inl far)))
    (λ (near : was ≤ last).
    ⊎_elim
    (λ (over : rows_before items was + height < rows_before items (last + 1)).
    let x = first-least items height was last a b (one.down near over) (two.down near over) in
    let y = first-least items height was last b a (two.down near over) (one.down near over) in omega arith)
    (λ (fit : rows_before items (last + 1) ≤ rows_before items was + height). one.up (inr fit) ∙ sym (two.up (inr fit)))
    (cases_lt (rows_before items was + height) (rows_before items (last + 1))))
    (cases_lt last was)

offset-one : (items : List ListItem) (height asked : ℕ) (selected : Option ℕ) (was a b : ℕ) → IsOffset items height asked selected was a
    → IsOffset items height asked selected was b → a ≡ b
offset-one items height asked None was a b one two = one ∙ sym two
offset-one items height asked (Some selected) was a b one two =
    let x = padding-least items height asked selected one.padding two.padding one.is_padding two.is_padding in
    let y = padding-least items height asked selected two.padding one.padding two.is_padding one.is_padding in
    let same : one.padding ≡ two.padding = omega arith in
    scrolled-one items height (first_kept selected two.padding) (last_kept items selected two.padding)
    (min was (last_item items)) a b
    (subst (λ n. IsScrolled items height (first_kept selected n) (last_kept items selected n) (min was (last_item items)) a) same
    one.scrolled) two.scrolled

-- where a list begins is where it is to begin
module _ (items : List ListItem) (height : ℕ) where
  padding-made : (asked selected : ℕ) → IsPadding items height asked selected (padding_of items height asked selected)
  padding-made asked selected =
      let is = largest-made (λ k. do_fit items height (first_kept selected k) (last_kept items selected k + 1))
      (min asked (length items)) in
      record {
        asked_for = is.most;
        fits = λ some. test-fit _ _ (is.passes some);
        largest = λ k le fit. is.largest k le (fit-test _ _ fit);
      }

  first-fits : (least last : ℕ) → least ≤ last
      → IsFirst items height least last (first_passing (λ k. do_fit items height k (last + 1)) least (last - least))
  first-fits least last order =
      let is = first-made (λ k. do_fit items height k (last + 1)) least (last - least) in
      let from = is.from in let to = is.to in
      record {
        from = from;
        to = omega arith;
        fits = λ lt. test-fit _ _ (is.passes (omega arith));
        nearest = λ k a b. test-over _ _ (is.nearest k a b);
      }

  scrolled-made-by : (first last was : ℕ) (far fits : Bool) → nat_lt last was ≡ far → do_fit items height was (last + 1) ≡ fits
      → IsScrolled items height first last was (if far || fits then min first was
      else first_passing (λ k. do_fit items height k (last + 1)) was (last - was))
  scrolled-made-by first last was true fits far is =
      let lt : last < was = grind (arith, nat_tests) in
      record { up = λ _. refl; down = λ le _. absurd (omega arith) }
  scrolled-made-by first last was false true near is =
      let fit : rows_before items (last + 1) ≤ rows_before items was + height = test-fit _ _ is in
      record { up = λ _. refl; down = λ _ over. absurd (omega arith) }
  scrolled-made-by first last was false false near is =
      let le : was ≤ last = grind (arith, nat_tests) in
      let over : rows_before items was + height < rows_before items (last + 1) = test-over _ _ is in
      record {
        up = λ either.
            ⊎_elim (λ (lt : last < was). absurd (omega arith))
            (λ (fit : rows_before items (last + 1) ≤ rows_before items was + height). absurd (omega arith)) either;
        down = λ _ _. first-fits was last le;
      }

  scrolled-made : (first last was : ℕ) → IsScrolled items height first last was (scrolled_from items height first last was)
  scrolled-made first last was =
      scrolled-made-by first last was (nat_lt last was) (do_fit items height was (last + 1)) refl refl

  offset-made : (asked : ℕ) (selected : Option ℕ) (was : ℕ)
      → IsOffset items height asked selected was (list_offset items height asked selected was)
  offset-made asked None was = refl
  offset-made asked (Some selected) was =
      let padding = padding_of items height asked selected in record {
        padding = padding;
        is_padding = padding-made asked selected;
        scrolled = scrolled-made (first_kept selected padding) (last_kept items selected padding) (min was (last_item items));
      }

offset-is : (items : List ListItem) (height asked : ℕ) (selected : Option ℕ) (was begins : ℕ)
    → IsOffset items height asked selected was begins → begins ≡ list_offset items height asked selected was
offset-is items height asked selected was begins is =
    offset-one items height asked selected was begins (list_offset items height asked selected was) is
    (offset-made items height asked selected was)

-- the last item alone from one on
first-end : (items : List ListItem) (height begins last : ℕ) → begins ≡ last → IsFirst items height begins last begins
first-end items height begins last at = record {
  from = omega arith;
  to = omega arith;
  fits = λ lt. absurd (omega arith);
  nearest = λ k from to. absurd (omega arith);
}

-- a list that begins where it does begins there again
module _ (items : List ListItem) (height first last was begins : ℕ) (order : first ≤ last)
    (fits : first < last → Fit items height first (last + 1)) (is : IsScrolled items height first last was begins) where
  -- it begins with the first item kept, or before that
  pub begins-early : begins ≤ first
  begins-early =
      ⊎_elim (λ (far : last < was). let e = is.up (inl far) in omega arith)
      (λ (near : was ≤ last).
      ⊎_elim (λ (over : rows_before items was + height < rows_before items (last + 1)).
      let at = is.down near over in let from = at.from in let to = at.to in
      ⊎_elim (λ (late : first < begins).
      let fit = fits (omega arith) in
      ⊎_elim (λ (lt : first < was). let grow = rows-grow items first was (omega arith) in absurd (omega arith))
      (λ (ge : was ≤ first). let no = at.nearest first ge late in absurd (omega arith))
      (cases_lt first was))
      (λ (early : begins ≤ first). early) (cases_lt first begins))
      (λ (fit : rows_before items (last + 1) ≤ rows_before items was + height). let e = is.up (inr fit) in omega arith)
      (cases_lt (rows_before items was + height) (rows_before items (last + 1))))
      (cases_lt last was)

  -- if what is kept doesn't fit from there, it is one item, with which the list begins
  pub begins-over : rows_before items begins + height < rows_before items (last + 1) → begins ≡ last
  begins-over over =
      let early = begins-early in
      ⊎_elim (λ (lt : begins < last).
      ⊎_elim (λ (less : begins < first).
      ⊎_elim (λ (far : last < was). let e = is.up (inl far) in absurd (omega arith))
      (λ (near : was ≤ last).
      ⊎_elim (λ (lacks : rows_before items was + height < rows_before items (last + 1)).
      let at = is.down near lacks in let fit = at.fits lt in absurd (omega arith))
      (λ (fit : rows_before items (last + 1) ≤ rows_before items was + height).
      let e = is.up (inr fit) in let same : was ≡ begins = omega arith in
      let here : rows_before items (last + 1) ≤ rows_before items begins + height =
      subst (λ k. rows_before items (last + 1) ≤ rows_before items k + height) same fit in absurd (omega arith))
      (cases_lt (rows_before items was + height) (rows_before items (last + 1))))
      (cases_lt last was))
      (λ (ge : first ≤ begins).
      let same : first ≡ begins = omega arith in
      let fit : rows_before items (last + 1) ≤ rows_before items begins + height =
      subst (λ k. rows_before items (last + 1) ≤ rows_before items k + height) same (fits (omega arith)) in absurd (omega arith))
      (cases_lt begins first))
      (λ (ge : last ≤ begins). omega arith)
      (cases_lt begins last)

  scrolled-again : IsScrolled items height first last begins begins
  scrolled-again =
      let early = begins-early in
      record { up = λ _. omega arith; down = λ _ over. first-end items height begins last (begins-over over) }

offset-again : (items : List ListItem) (height asked : ℕ) (selected : Option ℕ) (was begins : ℕ) → 0 < length items
    → (at_most (last_item items) selected ≡ selected) → IsOffset items height asked selected was begins
    → IsOffset items height asked selected begins begins
offset-again items height asked None was begins some within is = omega arith
offset-again items height asked (Some selected) was begins some within is =
    let padding = is.padding in
    let least : min selected (last_item items) ≡ selected = some-same _ _ within in
    let fits = is.is_padding.fits in
    let again = scrolled-again items height (first_kept selected padding) (last_kept items selected padding)
    (min was (last_item items)) begins (omega arith) (λ lt. fits (omega arith)) is.scrolled in
    let early = begins-early items height (first_kept selected padding) (last_kept items selected padding)
    (min was (last_item items)) begins (omega arith) (λ lt. fits (omega arith)) is.scrolled in
    let at : begins ≡ min begins (last_item items) = omega arith in
    record {
      padding = padding;
      is_padding = is.is_padding;
      scrolled = subst (λ k. IsScrolled items height (first_kept selected padding) (last_kept items selected padding) k begins) at
          again;
    }
  where
    some-same : (a b : ℕ) → Some a ≡ Some b → a ≡ b
    some-same a b e = cc

-- a list that begins with its first item, which is selected, stays so
first-stays : (items : List ListItem) (height asked : ℕ) → list_offset items height asked (Some 0) 0 ≡ 0
first-stays items height asked =
    let is = offset-made items height asked (Some 0) 0 in
    let padding = is.padding in
    let fits = is.is_padding.fits in
    let early = begins-early items height (first_kept 0 padding) (last_kept items 0 padding) (min 0 (last_item items))
    (list_offset items height asked (Some 0) 0) (omega arith) (λ lt. fits (omega arith)) is.scrolled in
    omega arith

pub first-state-stays : (item : ListItem) (items : List ListItem) (height asked : ℕ)
    → next_list_state (item ∷ items) asked height (record { offset = 0; selected = Some 0 }) ≡ record {
      offset = 0;
      selected = Some 0;
    }
first-state-stays item items height asked =
    let selected : min 0 (last_item (item ∷ items)) ≡ 0 = omega arith in
    let offset = ap (λ k. list_offset (item ∷ items) height asked (Some k) 0) selected ∙ first-stays (item ∷ items) height asked in
    λ i. record { offset = offset i; selected = Some (selected i) }

at-most-twice : (last : ℕ) (o : Option ℕ) → at_most last (at_most last o) ≡ at_most last o
at-most-twice last None = refl
at-most-twice last (Some n) = ap Some (let e : min (min n last) last ≡ min n last = omega arith in e)

-- the next state is its own next one
next-again : (l : ListData) (height : ℕ) (s t : ListState) → IsNextListState l height s t → IsNextListState l height t t
next-again l height s t is = record {
  no_items = is.no_items;
  selected = λ some. let e = is.selected some in rw e (sym (at-most-twice (last_item l.items.items) s.selected));
  offset = λ some.
      let e = is.selected some in
      offset-again l.items.items height l.scroll_padding t.selected s.offset t.offset some
      (rw e (at-most-twice (last_item l.items.items) s.selected)) (is.offset some);
}

-- it is one state
next-by : (items : List ListItem) (l : ListData) (height : ℕ) (s t : ListState) → l.items.items ≡ items
    → IsNextListState l height s t → t ≡ next_list_state items l.scroll_padding height s
next-by [] l height s t same is = is.no_items same
next-by (item ∷ items) l height s t same is =
    let count : length l.items.items ≡ suc (length items) = ap length same in
    let some : 0 < length l.items.items = omega arith in
    let selected = rw same at (is.selected some) in
    let offset = offset-is (item ∷ items) height l.scroll_padding t.selected s.offset t.offset (rw same at (is.offset some)) in
    let offset' = rw selected at offset in
    λ i. record { offset = offset' i; selected = selected i }

next-is : (l : ListData) (height : ℕ) (s t : ListState) → IsNextListState l height s t
    → t ≡ next_list_state l.items.items l.scroll_padding height s
next-is l height s t is = next-by l.items.items l height s t refl is

next-made-by : (items : List ListItem) (l : ListData) (height : ℕ) (s : ListState) → l.items.items ≡ items
    → IsNextListState l height s (next_list_state items l.scroll_padding height s)
next-made-by [] l height s same = record {
  no_items = λ _. refl;
  selected = λ some. let none : length l.items.items ≡ 0 = ap length same in absurd (omega arith);
  offset = λ some. let none : length l.items.items ≡ 0 = ap length same in absurd (omega arith);
}
next-made-by (item ∷ items) l height s same = record {
  no_items = λ none. let no : item ∷ items ≡ [] = sym same ∙ none in absurd (cc);
  selected = λ _. rw same refl;
  offset = λ _. rw same (offset-made (item ∷ items) height l.scroll_padding (at_most (last_item (item ∷ items)) s.selected) s.offset);
}

next-made : (l : ListData) (height : ℕ) (s : ListState)
    → IsNextListState l height s (next_list_state l.items.items l.scroll_padding height s)
next-made l height s = next-made-by l.items.items l height s refl

-- the next state of these items is its own next one
pub next-twice : (items : List ListItem) (asked height : ℕ) (s : ListState)
    → next_list_state items asked height (next_list_state items asked height s) ≡ next_list_state items asked height s
next-twice [] asked height s = refl
next-twice (item ∷ items) asked height s =
    let all = item ∷ items in
    let chosen = at_most (last_item all) s.selected in
    let same = at-most-twice (last_item all) s.selected in
    let offset = list_offset all height asked chosen s.offset in
    let again = offset-again all height asked chosen s.offset offset (omega arith) same (offset-made all height asked chosen s.offset) in
    let at : list_offset all height asked (at_most (last_item all) chosen) offset ≡ offset =
    ap (λ o. list_offset all height asked o offset) same ∙ sym (offset-is all height asked chosen offset offset again) in
    λ i. record { offset = at i; selected = same i }

-- so a list leads on
pub list-leads : (l : ListData) → LeadsOn (ShowsList l) (λ r. IsNextListState l r.height)
    (λ r. next_list_state l.items.items l.scroll_padding r.height)
list-leads l = record {
  leads = λ s t r a b shows. shows.state;
  one = λ s t r is. next-is l r.height s t is;
  made = λ s r. next-made l r.height s;
  again = λ s t r is. next-again l r.height s t is;
  shown = λ s t r a b shows. record {
    state = next-again l r.height s t shows.state;
    count = shows.count;
    is_count = shows.is_count;
    shown = shows.shown;
  };
}
