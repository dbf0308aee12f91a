-- One that is put in stands before the first with a greater number, and the place is within the table.
use Rattle.deadpool_parts.proofs.Words.{rules, ◌≡◌, ◌∙◌, nat_lt, length, vec_len, arith, not, position_or_len}
use Rattle.deadpool_parts.proofs.Words.{prefix_len-le-length}
use Rattle.deadpool_parts.proofs.{Places.place_or_end, Numbered.inserted_at_place}
use Rattle.deadpool_parts.proofs.tables.put_in.Goals as goal

pub insert-requires : goal.insert-requires
insert-requires g c =
    let number = g.T.Numbered.number_of in
    let xs = c.args.items.now.items in
    let len : vec_len c.args.items.now ≡ length xs = search rules in
    let at : c.unwrap_or-at.result ≡ position_or_len (λ x. nat_lt (number c.args.item) (number x)) xs =
    c.unwrap_or-at.ensures
    ∙ (rw (
      c.index_above.ensures,
      c.len.ensures,
      len,
      c.number.ensures,
    ) (place_or_end (λ x. nat_lt (number c.args.item) (number x)) xs)) in
    omega (arith, at, len, prefix_len-le-length (λ x. not (nat_lt (number c.args.item) (number x))) xs)

pub returns-clause-items : goal.returns-clause-items
returns-clause-items g c =
    let number = g.T.Numbered.number_of in
    let xs = c.args.items.now.items in
    let len : vec_len c.args.items.now ≡ length xs = search rules in
    let at : c.unwrap_or-at.result ≡ position_or_len (λ x. nat_lt (number c.args.item) (number x)) xs =
    c.unwrap_or-at.ensures
    ∙ (rw (
      c.index_above.ensures,
      c.len.ensures,
      len,
      c.number.ensures,
    ) (place_or_end (λ x. nat_lt (number c.args.item) (number x)) xs)) in
    rw (c.in-Ok.ensures.items, at) (inserted_at_place number c.args.item xs)
