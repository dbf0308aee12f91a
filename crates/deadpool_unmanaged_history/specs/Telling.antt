-- A caller that has seen by the end of its calls that all are told.

-- Its calls, and more that it has seen by the time that they return: a moment at which nobody is due to be told, and
-- before it what others did, and who was told. The first relation says what was seen since, the other how a caller
-- knows of such a moment.
module _ {C : Type 0} (keeps : C → C → Type 0) (is_quiet : C → Type 0) where
  abbrev pub ThenTells : (C → C → Type 0) → C → C → Type 0
  ThenTells calls c c' = (called : C) × (calls c called × keeps called c' × is_quiet c')
