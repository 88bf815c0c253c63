-- What commands keep, and what they make.
use Rattle.std.proofs.Common.{◌≡◌, ◌≢◌, ℕ, zero, suc, Bool, true, false, not, cond, ◌||◌, List, [], ◌∷◌, ◌++◌, length}
use Rattle.std.proofs.Common.{take}
use Rattle.std.proofs.Common.{drop}
use Rattle.std.proofs.Common.{Option, None, Some, refl, ap, sym, ◌∙◌, subst, append_assoc}
use Rattle.std.specs.Prelude.{codes, find, option_map, is_some, if◌then◌else◌}
use Rattle.std.specs.Option.{option_map_or, option_and_then}
use Rattle.std.specs.Str.{bytes_eq}
use Rattle.std.specs.declared.time.Duration.{Duration}
use Rattle.std.proofs.lemmas.Slice.Eq.{bytes_eq-Decides}
use Rattle.ratatui_files.specs.declared.node.Entry.{Entry}
use Rattle.ratatui_files.specs.declared.node.Node.{Node}
use Rattle.ratatui_files.specs.declared.node.Node.TheVariants.{Folder, File}
use Rattle.ratatui_files.specs.declared.answer.Answer.{Answer}
use Rattle.ratatui_files.specs.declared.answer.Answer.TheVariants as answer
use Rattle.ratatui_files.specs.declared.answer.Failure.{Failure}
use Rattle.ratatui_files.specs.declared.command.Command.{Command}
use Rattle.ratatui_files.specs.declared.command.Command.TheVariants as command
use Rattle.ratatui_files.specs.Paths.{after_start, path_from, is_inside, moved_path}
use Rattle.ratatui_files.specs.Trees.{Tree, stands_at, node_at, bytes_at, bytes_of, without, with_node}
use Rattle.ratatui_files.specs.Trees.{with_path}
use Rattle.ratatui_files.specs.Trees.{renamed}
use Rattle.ratatui_files.specs.Changes.{refusal, done, done_answer, answer_to, tree_after, lack, wants_file}
use Rattle.ratatui_files.specs.Kept.{is_within, NamesOther}
use Rattle.ratatui_events.proofs.TextLemmas.{begins}

-- ---- equal texts

same-text : (xs ys : List ℕ) → bytes_eq xs ys ≡ true → xs ≡ ys
same-text xs ys e = (bytes_eq-Decides xs ys).0 e

own-text : (xs : List ℕ) → bytes_eq xs xs ≡ true
own-text xs = (bytes_eq-Decides xs xs).1 refl

other-text : (xs ys : List ℕ) (b : Bool) → bytes_eq xs ys ≡ b → xs ≢ ys → b ≡ false
other-text xs ys true e h = absurd (h (same-text xs ys e))
other-text xs ys false e h = refl

-- ---- what is found where

-- nothing is found at a path once it is taken out
find-gone : (path : List ℕ) (t : List Entry) → find (stands_at path) (without path t) ≡ None
find-gone path [] = refl
find-gone path (e ∷ t) = by (find-gone path t) (stands_at path e) refl
  where
    by : find (stands_at path) (without path t) ≡ None → (b : Bool) → stands_at path e ≡ b
        → find (stands_at path) (cond (not b) (e ∷ without path t) (without path t)) ≡ None
    by rest true is = rest
    by rest false is = ap (λ c. cond c (Some e) (find (stands_at path) (without path t))) is ∙ rest

-- what is found elsewhere stays
find-elsewhere : (q path : List ℕ) (t : List Entry) → q ≢ path → find (stands_at q) (without path t) ≡ find (stands_at q) t
find-elsewhere q path [] h = refl
find-elsewhere q path (e ∷ t) h = by (find-elsewhere q path t h) (stands_at path e) refl
  where
    by : find (stands_at q) (without path t) ≡ find (stands_at q) t → (b : Bool) → stands_at path e ≡ b
        → find (stands_at q) (cond (not b) (e ∷ without path t) (without path t))
        ≡ cond (stands_at q e) (Some e) (find (stands_at q) t)
    by rest true is =
        let here : e.path ≡ path = same-text e.path path is in
        let not_q : stands_at q e ≡ false =
        other-text e.path q (stands_at q e) refl (λ same. h (sym same ∙ here)) in
        rest ∙ sym (ap (λ c. cond c (Some e) (find (stands_at q) t)) not_q)
    by rest false is = ap (λ o. cond (stands_at q e) (Some e) o) rest

-- what is found in a list with one more thing
find-pushed : (test : Entry → Bool) (e : Entry) (t : List Entry) → find test t ≡ None → test e ≡ true
    → find test (t ++ e ∷ []) ≡ Some e
find-pushed test e [] none is = ap (λ c. cond c (Some e) None) is
find-pushed test e (x ∷ t) none is = by (λ h. find-pushed test e t h is) (test x) refl
  where
    by : (find test t ≡ None → find test (t ++ e ∷ []) ≡ Some e) → (b : Bool) → test x ≡ b
        → cond b (Some x) (find test (t ++ e ∷ [])) ≡ Some e
    by rest true said =
        let no : Some x ≡ None = sym (ap (λ c. cond c (Some x) (find test t)) said) ∙ none in cc
    by rest false said = rest (sym (ap (λ c. cond c (Some x) (find test t)) said) ∙ none)

find-not_pushed : (test : Entry → Bool) (e : Entry) (t : List Entry) → test e ≡ false → find test (t ++ e ∷ []) ≡ find test t
find-not_pushed test e [] is = ap (λ c. cond c (Some e) None) is
find-not_pushed test e (x ∷ t) is = ap (λ o. cond (test x) (Some x) o) (find-not_pushed test e t is)

-- ---- what stands where

put-here : (b : ℕ) (path : List ℕ) (node : Node) (time : Duration) (t : List Entry)
    → node_at (b ∷ path) (with_node (b ∷ path) node time t) ≡ Some node
put-here b path node time t =
    ap (option_map (λ (e : Entry). e.node))
    (find-pushed (stands_at (b ∷ path)) (record { path = b ∷ path; node = node; modified = time })
    (without (b ∷ path) t) (find-gone (b ∷ path) t) (own-text (b ∷ path)))

put-elsewhere : (q path : List ℕ) (node : Node) (time : Duration) (t : List Entry) → q ≢ path
    → node_at q (with_node path node time t) ≡ node_at q t
put-elsewhere [] path node time t h = refl
put-elsewhere (b ∷ q) path node time t h =
    ap (option_map (λ (e : Entry). e.node))
    (find-not_pushed (stands_at (b ∷ q)) (record { path = path; node = node; modified = time }) (without path t)
    (other-text path (b ∷ q) (bytes_eq path (b ∷ q)) refl (λ same. h (sym same)))
    ∙ find-elsewhere (b ∷ q) path t h)

taken-elsewhere : (q path : List ℕ) (t : List Entry) → q ≢ path → node_at q (without path t) ≡ node_at q t
taken-elsewhere [] path t h = refl
taken-elsewhere (b ∷ q) path t h = ap (option_map (λ (e : Entry). e.node)) (find-elsewhere (b ∷ q) path t h)

-- ---- moves

-- what is moved is inside its new path
inside-moved : (to rest : List ℕ) → is_inside to (to ++ codes "/" ++ rest) ≡ true
inside-moved [] rest = refl
inside-moved (c ∷ to) rest =
    ap (is_inside (c ∷ to)) (append_assoc (c ∷ to) (codes "/") rest)
    ∙ (let text : List ℕ = (c ∷ to) ++ (codes "/" ++ rest) in
    ap (λ b. is_some (option_and_then (after_start (codes "/")) (if b then Some (drop (length (c ∷ to)) text) else None)))
    (begins text (c ∷ to) (codes "/" ++ rest) refl))
    ∙ ap (λ left. is_some (after_start (codes "/") left)) (drop-joined (c ∷ to) (codes "/" ++ rest))
    ∙ ap (λ b. is_some (if b then Some rest else None)) (begins (codes "/" ++ rest) (codes "/") rest refl)
  where
    drop-joined : (xs ys : List ℕ) → drop (length xs) (xs ++ ys) ≡ ys
    drop-joined [] ys = refl
    drop-joined (x ∷ xs) ys = drop-joined xs ys

or-parts : (a b : Bool) → (a || b) ≡ false → (a ≡ false) × (b ≡ false)
or-parts true b e = absurd (true-false e)
  where
    true-false : true ≡ false → ⊥
    true-false e = cc
or-parts false b e = (refl, e)

-- a thing comes to a path that is in neither of the two no more and no less than it was there
moved-elsewhere : (from to q path : List ℕ) → is_within from q ≡ false → is_within to q ≡ false
    → bytes_eq (moved_path from to path) q ≡ bytes_eq path q
moved-elsewhere from to q path not_from not_to = by (bytes_eq path from) refl
  where
    not_at : (p : List ℕ) → is_within p q ≡ false → bytes_eq p q ≡ false
    not_at p e = other-text p q (bytes_eq p q) refl (λ same.
        let own : bytes_eq q p ≡ true = subst (λ (x : List ℕ). bytes_eq q x ≡ true) (sym same) (own-text q) in
        let no : bytes_eq q p ≡ false = (or-parts (bytes_eq q p) (is_inside p q) e).0 in
        let clash : true ≡ false = sym own ∙ no in cc)

    not_in : (p x : List ℕ) → is_within p q ≡ false → is_inside p x ≡ true → bytes_eq x q ≡ false
    not_in p x e inside = other-text x q (bytes_eq x q) refl (λ same.
        let yes : is_inside p q ≡ true = subst (λ (y : List ℕ). is_inside p y ≡ true) same inside in
        let no : is_inside p q ≡ false = (or-parts (bytes_eq q p) (is_inside p q) e).1 in
        let clash : true ≡ false = sym yes ∙ no in cc)

    inner : (o : Option (List ℕ)) → path_from from path ≡ o
        → bytes_eq (option_map_or (λ rest. to ++ codes "/" ++ rest) o path) q ≡ bytes_eq path q
    inner None is = refl
    inner (Some rest) is =
        not_in to (to ++ codes "/" ++ rest) not_to (inside-moved to rest)
        ∙ sym (not_in from path not_from (ap is_some is))

    by : (b : Bool) → bytes_eq path from ≡ b
        → bytes_eq (if b then to else option_map_or (λ rest. to ++ codes "/" ++ rest) (path_from from path) path) q
        ≡ bytes_eq path q
    by true is =
        not_at to not_to
        ∙ sym (subst (λ (x : List ℕ). bytes_eq x q ≡ false) (sym (same-text path from is)) (not_at from not_from))
    by false is = inner (path_from from path) refl

node-renamed : (from to q : List ℕ) (t : List Entry) → is_within from q ≡ false → is_within to q ≡ false
    → option_map (λ (e : Entry). e.node) (find (stands_at q) (renamed from to t))
    ≡ option_map (λ (e : Entry). e.node) (find (stands_at q) t)
node-renamed from to q [] not_from not_to = refl
node-renamed from to q (e ∷ t) not_from not_to =
    ap (λ b. option_map (λ (x : Entry). x.node)
    (cond b (Some (with_path e (moved_path from to e.path))) (find (stands_at q) (renamed from to t))))
    (moved-elsewhere from to q e.path not_from not_to)
    ∙ by (node-renamed from to q t not_from not_to) (stands_at q e)
  where
    by : option_map (λ (x : Entry). x.node) (find (stands_at q) (renamed from to t))
        ≡ option_map (λ (x : Entry). x.node) (find (stands_at q) t)
        → (b : Bool) → option_map (λ (x : Entry). x.node)
        (cond b (Some (with_path e (moved_path from to e.path))) (find (stands_at q) (renamed from to t)))
        ≡ option_map (λ (x : Entry). x.node) (cond b (Some e) (find (stands_at q) t))
    by rest true = refl
    by rest false = rest

renamed-elsewhere : (from to q : List ℕ) (t : List Entry) → is_within from q ≡ false → is_within to q ≡ false
    → node_at q (renamed from to t) ≡ node_at q t
renamed-elsewhere from to [] t not_from not_to = refl
renamed-elsewhere from to (b ∷ q) t not_from not_to = node-renamed from to (b ∷ q) t not_from not_to

-- ---- commands

done-elsewhere : (q : List ℕ) (c : Command) (t : Tree) → NamesOther q c → node_at q (done c t) ≡ node_at q t.entries
done-elsewhere q (command.List folder) t h = refl
done-elsewhere q (command.Read path start most) t h = refl
done-elsewhere q (command.Write path bytes) t h = put-elsewhere q path (File bytes) t.time t.entries h
done-elsewhere q (command.Rename from to) t h = renamed-elsewhere from to q t.entries h.0 h.1
done-elsewhere q (command.Copy from to) t h = put-elsewhere q to (File (bytes_at from t.entries)) t.time t.entries h
done-elsewhere q (command.Remove path) t h = taken-elsewhere q path t.entries h
done-elsewhere q (command.RemoveFolder path) t h = taken-elsewhere q path t.entries h
done-elsewhere q (command.MakeFolder path) t h = put-elsewhere q path Folder t.time t.entries h
done-elsewhere q (command.MakeFile path) t h = put-elsewhere q path (File []) t.time t.entries h
done-elsewhere q command.Now t h = refl

pub stays : (q : List ℕ) (c : Command) (t : Tree) → NamesOther q c → node_at q (tree_after c t).entries ≡ node_at q t.entries
stays q c t h = by (refusal c t.entries)
  where
    by : (o : Option Failure)
        → node_at q (option_map_or (λ _. t) o (record { entries = done c t; time = t.time })).entries ≡ node_at q t.entries
    by None = done-elsewhere q c t h
    by (Some failure) = refl

-- what isn't refused doesn't fail
done-fine : (c : Command) (t : Tree) (failure : Failure) → done_answer c t ≡ answer.Failed failure → ⊥
done-fine (command.List folder) t failure e = cc
done-fine (command.Read path start most) t failure e = cc
done-fine (command.Write path bytes) t failure e = cc
done-fine (command.Rename from to) t failure e = cc
done-fine (command.Copy from to) t failure e = cc
done-fine (command.Remove path) t failure e = cc
done-fine (command.RemoveFolder path) t failure e = cc
done-fine (command.MakeFolder path) t failure e = cc
done-fine (command.MakeFile path) t failure e = cc
done-fine command.Now t failure e = cc

pub failed-same : (c : Command) (t : Tree) (failure : Failure) → answer_to c t ≡ answer.Failed failure → tree_after c t ≡ t
failed-same c t failure = by (refusal c t.entries)
  where
    by : (o : Option Failure) → option_map_or answer.Failed o (done_answer c t) ≡ answer.Failed failure
        → option_map_or (λ _. t) o (record { entries = done c t; time = t.time }) ≡ t
    by None e = absurd (done-fine c t failure e)
    by (Some why) e = refl

-- what was answered `Done` wasn't refused
not-refused : (c : Command) (t : Tree) → answer_to c t ≡ answer.Done → refusal c t.entries ≡ None
not-refused c t = by (refusal c t.entries)
  where
    by : (o : Option Failure) → option_map_or answer.Failed o (done_answer c t) ≡ answer.Done → o ≡ None
    by None e = refl
    by (Some failure) e = cc

after-done : (c : Command) (t : Tree) → answer_to c t ≡ answer.Done
    → tree_after c t ≡ record { entries = done c t; time = t.time }
after-done c t e =
    ap (λ o. let x : Tree = option_map_or (λ _. t) o (record { entries = done c t; time = t.time }) in x)
    (not-refused c t e)

pub removed-gone : (path : List ℕ) (t : Tree) → answer_to (command.Remove path) t ≡ answer.Done
    → node_at path (tree_after (command.Remove path) t).entries ≡ None
removed-gone [] t e = let no = not-refused (command.Remove []) t e in cc
removed-gone (b ∷ path) t e =
    ap (λ (x : Tree). node_at (b ∷ path) x.entries) (after-done (command.Remove (b ∷ path)) t e)
    ∙ ap (option_map (λ (x : Entry). x.node)) (find-gone (b ∷ path) t.entries)

-- what a file is read as
read-from : List ℕ → ℕ → List Entry → Option Node → Answer
read-from path most t o =
    option_map_or answer.Failed (wants_file (lack path t) o) (answer.Read (take most (drop 0 (option_map_or bytes_of o []))))

pub written-read : (path bytes : List ℕ) (most : ℕ) (t : Tree) → answer_to (command.Write path bytes) t ≡ answer.Done
    → answer_to (command.Read path 0 most) (tree_after (command.Write path bytes) t) ≡ answer.Read (take most bytes)
unfolding read-from
written-read [] bytes most t e = let no = not-refused (command.Write [] bytes) t e in cc
written-read (b ∷ path) bytes most t e =
    ap (λ (x : Tree). answer_to (command.Read (b ∷ path) 0 most) x) (after-done (command.Write (b ∷ path) bytes) t e)
    ∙ ap (read-from (b ∷ path) most (with_node (b ∷ path) (File bytes) t.time t.entries))
    (put-here b path (File bytes) t.time t.entries)

-- an empty file has no bytes, from any one on
drop-nothing : (n : ℕ) (bytes : List ℕ) → bytes ≡ [] → drop n bytes ≡ bytes
drop-nothing zero bytes e = refl
drop-nothing (suc n) [] e = refl
drop-nothing (suc n) (b ∷ bytes) e = cc

take-nothing : (n : ℕ) (bytes : List ℕ) → bytes ≡ [] → take n bytes ≡ bytes
take-nothing zero [] e = refl
take-nothing zero (b ∷ bytes) e = cc
take-nothing (suc n) [] e = refl
take-nothing (suc n) (b ∷ bytes) e = cc

-- what a file is read as, from some byte on
read-on : List ℕ → ℕ → ℕ → List Entry → Option Node → Answer
read-on path start most t o =
    option_map_or answer.Failed (wants_file (lack path t) o)
    (answer.Read (take most (drop start (option_map_or bytes_of o []))))

pub made-empty : (path : List ℕ) (start most : ℕ) (t : Tree) → answer_to (command.MakeFile path) t ≡ answer.Done
    → answer_to (command.Read path start most) (tree_after (command.MakeFile path) t) ≡ answer.Read []
unfolding read-on
made-empty [] start most t e = let no = not-refused (command.MakeFile []) t e in cc
made-empty (b ∷ path) start most t e =
    ap (λ (x : Tree). answer_to (command.Read (b ∷ path) start most) x) (after-done (command.MakeFile (b ∷ path)) t e)
    ∙ ap (read-on (b ∷ path) start most (with_node (b ∷ path) (File []) t.time t.entries))
    (put-here b path (File []) t.time t.entries)
    ∙ ap (λ bytes. answer.Read bytes) (ap (take most) (drop-nothing start [] refl) ∙ take-nothing most [] refl)
