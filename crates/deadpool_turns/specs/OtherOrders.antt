-- Changes of a pool in another order than that of its queue, by which one that waits is put back.
use Rattle.std.specs.Prelude.{◌≡◌, ℕ, ◌+◌, ◌-◌, true, ◌++◌, length, take, drop}
use Rattle.deadpool_desk.specs.DeskState.{DeskState, grants}
use Rattle.deadpool_turns.specs.Turns.{IsOrderly, Nears, Waits}

-- Those that came last are granted the places that are free.
abbrev pub settled_from_back : DeskState ℕ → DeskState ℕ
settled_from_back d = record d {
  granted = d.granted ++ drop (length d.waiting - grants d) d.waiting;
  waiting = take (length d.waiting - grants d) d.waiting;
}

-- An object comes back, and its place goes to the one that came last.
abbrev pub freed_for_last : DeskState ℕ → DeskState ℕ
freed_for_last d = settled_from_back (record d { outside = d.outside - 1 })

-- A new get is served, though others wait.
abbrev pub barged_in : DeskState ℕ → DeskState ℕ
barged_in d = record d { outside = d.outside + 1 }

-- A resize to the same limit puts the first that waits behind the others.
abbrev pub put_behind : DeskState ℕ → DeskState ℕ
put_behind d = record d { waiting = drop 1 d.waiting ++ take 1 d.waiting }

-- Such a change brings each that waits in an orderly pool nearer by so many.
abbrev pub EachNearsBy : ℕ → (DeskState ℕ → DeskState ℕ) → Type 0
EachNearsBy count change = (t : ℕ) (d : DeskState ℕ) → IsOrderly d → d.is_open ≡ true → Waits t d
    → Nears t count d (change d)
