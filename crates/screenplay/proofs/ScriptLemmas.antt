-- Reading a script, a line at a time: its parts are those of the list of its commands.
use Rattle.std.proofs.Common.{◌≡◌, ℕ, ◌+◌, ◌<◌, ◌||◌, ◌==◌, nat_lt, nat_le, Bool, true, false, if◌then◌else◌, List, []}
use Rattle.std.proofs.Common.{◌∷◌, ◌++◌, length, reverse, Option, Some, None, refl, sym, ap, ◌∙◌, subst, arith}
use Rattle.std.proofs.Common.{append_assoc, append-nil, slice_get, option_and_then, take, drop, get_or, length-take}
use Rattle.std.proofs.lemmas.List.{take-append-drop}
use Rattle.std.specs.{List.list_any, List.filter_map}
use Rattle.std.proofs.lemmas.{List.Folds.list_any-append, List.Elements.filter_map-append, List.reverse-append}
use Rattle.std.proofs.lemmas.Bool.Decides.{nat_tests}
use Rattle.rtui_geometry.specs.declared.size.Size.{Size}
use Rattle.rtui_text.specs.Text.{TextData, raw_line, text_of}
use Rattle.screenplay.specs.{declared.script.Command.Command, declared.script.Script.Script}
use Rattle.screenplay.specs.{declared.scene.Stage.Stage}
use Rattle.screenplay.specs.declared.act.Act.TheVariants as acts
use Rattle.screenplay.specs.declared.act.Plan.TheVariants as plans
use Rattle.screenplay.specs.declared.script.Command.TheVariants.{SetStage, TakeSize, Put, AddText, Draw, Insert, Clear, Show}
use Rattle.screenplay.specs.Script.{command_of, command_with, commands_of, since, is_draw}
use Rattle.screenplay.specs.Script.{takes_text, new_size_in, line_in, letter_in, size_waiting}
use Rattle.screenplay.specs.Script.{lines_waiting, puts_waiting, stage_of, is_fixed, may_follow, act_after, acts_after}
use Rattle.screenplay.specs.Script.{is_good_line, AreGoodAfter, IsScriptOf, IsFirstBadLine}
use Rattle.screenplay.specs.Inner.{draw_of, without_text, with_act, after_on, after_line}
use Rattle.rtui_geometry.proofs.Lists.{element-next}

-- ---- one command more

module _ (is : Command → Bool) (c : Command) where
  since-taken : is c ≡ true → (cs : List Command) → since is (cs ++ c ∷ []) ≡ []
  since-taken e [] = rw e refl
  since-taken e (d ∷ cs) =
      let any : list_any is (cs ++ c ∷ []) ≡ true = list_any-append is cs (c ∷ []) ∙ rw e (or-true (list_any is cs)) in
      rw any (since-taken e cs)
    where
      or-true : (b : Bool) → (b || true) ≡ true
      or-true true = refl
      or-true false = refl

  since-kept : is c ≡ false → (cs : List Command) → since is (cs ++ c ∷ []) ≡ since is cs ++ c ∷ []
  since-kept e [] = rw e refl
  since-kept e (d ∷ cs) =
      let any : list_any is (cs ++ c ∷ []) ≡ list_any is cs = list_any-append is cs (c ∷ []) ∙ rw e (or-false (list_any is cs)) in
      by (list_any is cs) (is d) (since-kept e cs) refl refl any
    where
      or-false : (b : Bool) → (b || false) ≡ b
      or-false true = refl
      or-false false = refl

      by : (any here : Bool) → since is (cs ++ c ∷ []) ≡ since is cs ++ c ∷ [] → list_any is cs ≡ any → is d ≡ here
          → list_any is (cs ++ c ∷ []) ≡ list_any is cs → since is (d ∷ (cs ++ c ∷ [])) ≡ since is (d ∷ cs) ++ c ∷ []
      by true here more a h f = rw (f, a) more
      by false true more a h f = rw (f, a, h) refl
      by false false more a h f = rw (f, a, h) refl

  -- what waits of a sort after a command that takes it, and after another
  module _ {X : Type 0} (part : Command → Option X) where
    waits-taken : is c ≡ true → (cs : List Command) → filter_map part (since is (cs ++ c ∷ [])) ≡ []
    waits-taken e cs = ap (filter_map part) (since-taken e cs)

    waits-kept : is c ≡ false → (cs : List Command)
        → filter_map part (since is (cs ++ c ∷ [])) ≡ filter_map part (since is cs) ++ filter_map part (c ∷ [])
    waits-kept e cs = ap (filter_map part) (since-kept e cs) ∙ filter_map-append part (since is cs) (c ∷ [])

acts-more : (before cs : List Command) (c : Command)
    → acts_after before (cs ++ c ∷ []) ≡ acts_after before cs ++ act_after (before ++ cs) c
acts-more before [] c = append-nil (act_after before c) ∙ ap (λ bs. act_after bs c) (sym (append-nil before))
acts-more before (d ∷ cs) c =
    ap (λ xs. act_after before d ++ xs) (acts-more (before ++ d ∷ []) cs c
    ∙ ap (λ bs. acts_after (before ++ d ∷ []) cs ++ act_after bs c) (append_assoc before (d ∷ []) cs))
    ∙ sym (append_assoc (act_after before d) (acts_after (before ++ d ∷ []) cs) (act_after (before ++ d ∷ cs) c))

stage-more : (cs : List Command) (c : Command) → 0 < length cs → stage_of (cs ++ c ∷ []) ≡ stage_of cs
stage-more [] c some = absurd (omega arith)
stage-more (d ∷ cs) c some = refl

-- ---- what was read

-- a script is that of these commands, and what waits in it is what waits after them
pub record IsReadTo (cs : List Command) (s : Script) : Type 0 where
  pub stage : s.stage ≡ stage_of cs
  pub acts : s.acts ≡ acts_after [] cs
  pub size : s.size ≡ size_waiting cs
  pub text : s.text ≡ text_of (lines_waiting cs)
  pub puts : s.puts ≡ puts_waiting cs
  pub first : s.stage ≡ None → cs ≡ []

-- a command was taken, and may stand there, or wasn't, and may not
abbrev pub Follows : List Command → Command → Option Script → Type 0
Follows cs c None = may_follow cs c ≡ false
Follows cs c (Some t) = (may_follow cs c ≡ true) × IsReadTo (cs ++ c ∷ []) t

-- ---- the first command

module _ (s : Script) where
  pub first-taken : (stage : Stage) → IsReadTo [] s → Follows [] (SetStage stage) (Some (record s { stage = Some stage }))
  first-taken stage is = (
    refl,
    record {
      stage = refl;
      acts = is.acts;
      size = is.size;
      text = is.text;
      puts = is.puts;
      first = λ none. (let h : ⊥ = cc in absurd h);
    },
  )

-- ---- a command on a stage

module _ (cs : List Command) (s : Script) (is : IsReadTo cs s) (some : 0 < length cs) where
  acts-are : (c : Command) → s.acts ++ act_after cs c ≡ acts_after [] (cs ++ c ∷ [])
  acts-are c = ap (λ xs. xs ++ act_after cs c) is.acts ∙ sym (acts-more [] cs c)

  -- no act
  acts-stay : (c : Command) → act_after cs c ≡ [] → s.acts ≡ acts_after [] (cs ++ c ∷ [])
  acts-stay c none = sym (append-nil s.acts) ∙ ap (λ xs. s.acts ++ xs) (sym none) ∙ acts-are c

  size-stays : (c : Command) → is_draw c ≡ false → filter_map new_size_in (c ∷ []) ≡ [] → s.size ≡ size_waiting (cs ++ c ∷ [])
  size-stays c draws none = is.size ∙ ap (λ xs. slice_get (reverse xs) 0) (sym (waits-kept is_draw c new_size_in draws cs
      ∙ ap (λ xs. filter_map new_size_in (since is_draw cs) ++ xs) none ∙ append-nil (filter_map new_size_in (since is_draw cs))))

  text-stays : (c : Command) → takes_text c ≡ false → filter_map line_in (c ∷ []) ≡ []
      → s.text ≡ text_of (lines_waiting (cs ++ c ∷ []))
  text-stays c takes none = is.text ∙ ap text_of (sym (waits-kept takes_text c line_in takes cs
      ∙ ap (λ xs. filter_map line_in (since takes_text cs) ++ xs) none ∙ append-nil (filter_map line_in (since takes_text cs))))

  puts-stay : (c : Command) → is_draw c ≡ false → filter_map letter_in (c ∷ []) ≡ [] → s.puts ≡ puts_waiting (cs ++ c ∷ [])
  puts-stay c draws none = is.puts ∙ sym (waits-kept is_draw c letter_in draws cs
      ∙ ap (λ xs. filter_map letter_in (since is_draw cs) ++ xs) none ∙ append-nil (filter_map letter_in (since is_draw cs)))

  stage-stays : (c : Command) → s.stage ≡ stage_of (cs ++ c ∷ [])
  stage-stays c = is.stage ∙ sym (stage-more cs c some)

  not-first : (c : Command) → s.stage ≡ None → cs ++ c ∷ [] ≡ []
  not-first c none = absurd (let e = is.first none in omega (arith, ap length e))

  -- the waiting draw
  draw-is : act_after cs Draw ≡ acts.Play (draw_of s) ∷ []
  draw-is = rw (is.size, is.text, is.puts) refl

  pub draw-taken : IsReadTo (cs ++ Draw ∷ [])
      (with_act (acts.Play (draw_of s)) (record (without_text s) { size = None; puts = [] }))
  draw-taken = record {
    stage = stage-stays Draw;
    acts = ap (λ xs. s.acts ++ xs) (sym draw-is) ∙ acts-are Draw;
    size = sym (ap (λ xs. slice_get (reverse xs) 0) (waits-taken is_draw Draw new_size_in refl cs));
    text = sym (ap text_of (waits-taken takes_text Draw line_in refl cs));
    puts = sym (waits-taken is_draw Draw letter_in refl cs);
    first = not-first Draw;
  }

  pub insert-taken : IsReadTo (cs ++ Insert ∷ []) (with_act (acts.Play (plans.Insert s.text)) (without_text s))
  insert-taken = record {
    stage = stage-stays Insert;
    acts = ap (λ t. s.acts ++ acts.Play (plans.Insert t) ∷ []) is.text ∙ acts-are Insert;
    size = size-stays Insert refl refl;
    text = sym (ap text_of (waits-taken takes_text Insert line_in refl cs));
    puts = puts-stay Insert refl refl;
    first = not-first Insert;
  }

  pub clear-taken : IsReadTo (cs ++ Clear ∷ []) (with_act (acts.Play plans.Clear) s)
  clear-taken = record {
    stage = stage-stays Clear;
    acts = acts-are Clear;
    size = size-stays Clear refl refl;
    text = text-stays Clear refl refl;
    puts = puts-stay Clear refl refl;
    first = not-first Clear;
  }

  pub show-taken : IsReadTo (cs ++ Show ∷ []) (with_act acts.Show s)
  show-taken = record {
    stage = stage-stays Show;
    acts = acts-are Show;
    size = size-stays Show refl refl;
    text = text-stays Show refl refl;
    puts = puts-stay Show refl refl;
    first = not-first Show;
  }

  pub size-taken : (size : Size) → IsReadTo (cs ++ TakeSize size ∷ []) (record s { size = Some size })
  size-taken size = record {
    stage = stage-stays (TakeSize size);
    acts = acts-stay (TakeSize size) refl;
    size = sym (ap (λ xs. slice_get (reverse xs) 0) (waits-kept is_draw (TakeSize size) new_size_in refl cs)
        ∙ ap (λ xs. slice_get xs 0) (reverse-append (filter_map new_size_in (since is_draw cs)) (size ∷ [])));
    text = text-stays (TakeSize size) refl refl;
    puts = puts-stay (TakeSize size) refl refl;
    first = not-first (TakeSize size);
  }

  pub put-taken : (x y c : ℕ) → IsReadTo (cs ++ Put x y c ∷ []) (record s { puts = s.puts ++ (x, y, c) ∷ [] })
  put-taken x y c = record {
    stage = stage-stays (Put x y c);
    acts = acts-stay (Put x y c) refl;
    size = size-stays (Put x y c) refl refl;
    text = text-stays (Put x y c) refl refl;
    puts = ap (λ xs. xs ++ (x, y, c) ∷ []) is.puts ∙ sym (waits-kept is_draw (Put x y c) letter_in refl cs);
    first = not-first (Put x y c);
  }

  pub text-taken : (line : List ℕ) → IsReadTo (cs ++ AddText line ∷ [])
      (record s { text = record s.text { lines = s.text.lines ++ raw_line line ∷ [] } })
  text-taken line = let more : TextData → TextData = λ t. record t { lines = t.lines ++ raw_line line ∷ [] } in record {
    stage = stage-stays (AddText line);
    acts = acts-stay (AddText line) refl;
    size = size-stays (AddText line) refl refl;
    text = ap more is.text
        ∙ ap text_of (sym (waits-kept takes_text (AddText line) line_in refl cs));
    puts = puts-stay (AddText line) refl refl;
    first = not-first (AddText line);
  }

  counted : nat_lt 0 (length cs) ≡ true
  counted = grind (arith, nat_tests)

  pub follow-on : (stage : Stage) → s.stage ≡ Some stage → (c : Command) → Follows cs c (after_on (Some stage) c s)
  follow-on stage e (SetStage other) = grind (arith, nat_tests)
  follow-on stage e (TakeSize size) = by (is_fixed stage.viewport) refl
    where
      by : (fixed : Bool) → is_fixed stage.viewport ≡ fixed
          → Follows cs (TakeSize size) (if fixed then None else Some (record s { size = Some size }))
      by true f = rw (counted, ← is.stage, e, f) refl
      by false f = (rw (counted, ← is.stage, e, f) refl, size-taken size)
  follow-on stage e (Put x y c) = (counted, put-taken x y c)
  follow-on stage e (AddText line) = (counted, text-taken line)
  follow-on stage e Draw = (counted, draw-taken)
  follow-on stage e Insert = by (nat_le (length s.text.lines) 65535) refl
    where
      by : (few : Bool) → nat_le (length s.text.lines) 65535 ≡ few
          → Follows cs Insert (if few then Some (with_act (acts.Play (plans.Insert s.text)) (without_text s)) else None)
      by true f = (rw (counted, ← ap (λ t. length t.lines) is.text, f) refl, insert-taken)
      by false f = rw (counted, ← ap (λ t. length t.lines) is.text, f) refl
  follow-on stage e Clear = (counted, clear-taken)
  follow-on stage e Show = (counted, show-taken)

some-command : (cs : List Command) (stage : Stage) → stage_of cs ≡ Some stage → 0 < length cs
some-command [] stage e = let h : ⊥ = cc in absurd h
some-command (c ∷ cs) stage e = omega arith

-- a command after those that were read
pub follow : (cs : List Command) (c : Command) (s : Script) → IsReadTo cs s → Follows cs c (after_on s.stage c s)
follow cs c s is = by s.stage refl
  where
    none : (d : Command) → s.stage ≡ None → Follows [] d (after_on None d s)
    none (SetStage stage) e = first-taken s stage (subst (λ ds. IsReadTo ds s) (is.first e) is)
    none (TakeSize size) e = refl
    none (Put x y ch) e = refl
    none (AddText line) e = refl
    none Draw e = refl
    none Insert e = refl
    none Clear e = refl
    none Show e = refl

    by : (o : Option Stage) → s.stage ≡ o → Follows cs c (after_on o c s)
    by None e = subst (λ ds. Follows ds c (after_on None c s)) (sym (is.first e)) (none c e)
    by (Some stage) e = follow-on cs s is (some-command cs stage (sym is.stage ∙ e)) stage e c

-- ---- lines

-- these lines were read
pub record IsRead (lines : List (List ℕ)) (s : Script) : Type 0 where
  pub good : AreGoodAfter [] lines
  pub read : IsReadTo (commands_of lines) s

good-more : (before lines : List (List ℕ)) (line : List ℕ) → AreGoodAfter before lines
    → is_good_line (before ++ lines) line ≡ true → AreGoodAfter before (lines ++ line ∷ [])
good-more before [] line all good = (subst (λ ls. is_good_line ls line ≡ true) (append-nil before) good, tt)
good-more before (l ∷ ls) line all good = (
  all.0,
  good-more (before ++ l ∷ []) ls line all.1
      (subst (λ xs. is_good_line xs line ≡ true) (sym (append_assoc before (l ∷ []) ls)) good),
)

commands-more : (lines : List (List ℕ)) (line : List ℕ)
    → commands_of (lines ++ line ∷ []) ≡ commands_of lines ++ commands_of (line ∷ [])
commands-more lines line = filter_map-append command_of lines (line ∷ [])

empty-line : (line : List ℕ) → (length line == 0) ≡ true → line ≡ []
empty-line [] e = refl
empty-line (b ∷ bs) e = let no : (length (b ∷ bs) == 0) ≡ false = grind (arith, nat_tests) in let h : ⊥ = cc in absurd h

no-command : command_of [] ≡ None
unfolding command_of command_with
no-command = refl

-- a line was taken and is good, or wasn't, and is bad
abbrev pub TakesLine : List (List ℕ) → List ℕ → Option Script → Type 0
TakesLine lines line None = is_good_line lines line ≡ false
TakesLine lines line (Some t) = IsRead (lines ++ line ∷ []) t

pub line-taken : (lines : List (List ℕ)) (line : List ℕ) (s : Script) → IsRead lines s → TakesLine lines line (after_line line s)
line-taken lines line s is = by (length line == 0) (command_of line) refl refl
  where
    taken : (c : Command) (o : Option Script) → (length line == 0) ≡ false → command_of line ≡ Some c
        → Follows (commands_of lines) c o → TakesLine lines line o
    taken c None some e follows = rw (some, e) follows
    taken c (Some t) some e follows = record {
      good = good-more [] lines line is.good (rw (some, e) follows.0);
      read = subst (λ cs. IsReadTo cs t) (sym (commands-more lines line
          ∙ ap (λ o. commands_of lines ++ filter_map (λ x. o) (line ∷ [])) e)) follows.1;
    }

    by : (empty : Bool) (o : Option Command) → (length line == 0) ≡ empty → command_of line ≡ o
        → TakesLine lines line (if empty then Some s else option_and_then (λ c. after_on s.stage c s) o)
    by true o e f = record {
      good = good-more [] lines line is.good (rw e refl);
      read = subst (λ cs. IsReadTo cs s) (sym (commands-more lines line
          ∙ ap (λ l. commands_of lines ++ commands_of (l ∷ [])) (empty-line line e)
          ∙ ap (λ o. commands_of lines ++ filter_map (λ x. o) (line ∷ [])) no-command ∙ append-nil (commands_of lines))) is.read;
    }
    by false None e f = rw (e, f) refl
    by false (Some c) e f = taken c (after_on s.stage c s) e f (follow (commands_of lines) c s is.read)

pub read-all : (lines : List (List ℕ)) (s : Script) → IsRead lines s → IsScriptOf lines s
read-all lines s is = record { good = is.good; stage = is.read.stage; acts = is.read.acts }

-- a good line was taken
pub line-read : (lines : List (List ℕ)) (line : List ℕ) (s t : Script) → IsRead lines s → after_line line s ≡ Some t
    → IsRead (lines ++ line ∷ []) t
line-read lines line s t is e = subst (TakesLine lines line) e (line-taken lines line s is)

-- a bad line after good ones is the first bad one
pub IsFirstBadLine-read : (all done : List (List ℕ)) (line : List ℕ) (n : ℕ) (s : Script) → done ≡ take n all → n < length all
    → line ≡ get_or all n line → IsRead done s → after_line line s ≡ None → IsFirstBadLine all (n + 1)
IsFirstBadLine-read all done line n s front inside here is bad = record {
  before = done;
  bad = line;
  rest = drop (n + 1) all;
  parts = sym (take-append-drop n all) ∙ ap (λ xs. take n all ++ xs) (element-next all n line inside here)
      ∙ ap (λ xs. xs ++ line ∷ drop (n + 1) all) (sym front);
  count = omega (arith, inside, length-take n all, ap length front);
  good = is.good;
  refused = subst (TakesLine done line) bad (line-taken done line s is);
}
