use mathlib.Core.Path.{refl}
use native.Mathlib.Omega.{arith}
use Rattle.held.proofs.DownLaws.{descending_start, first_byte, level_asks, level_stop, level_last, level_fits, level_next, level_one}
use Rattle.held.proofs.down.next_down.Goals as goal

pub one_less-found-requires : goal.one_less-found-requires
one_less-found-requires c = level_asks c.requires 0 (descending_start _ _ _ _ _) (first_byte _)

pub returns-then-is_some : goal.returns-then-is_some
returns-then-is_some c = level_stop c.requires 0 (descending_start _ _ _ _ _) (first_byte _) c.one_less-found.ensures c.is_some.ensures c.then-is_some.either

pub put_back-row-requires : goal.put_back-row-requires
put_back-row-requires c = level_fits c.requires 0 (descending_start _ _ _ _ _) (first_byte _) c.if-units-lt2.false (first_byte _)

pub one_less-found-requires-2 : goal.one_less-found-requires-2
one_less-found-requires-2 c =
    let level1 = level_one c.requires c.if-units-lt2.false c.one_less-found.ensures c.is_some.ensures c.if-is_some.false c.put_back-row.ensures in
    level_asks c.requires 1 level1 refl

pub returns-then-is_some-2 : goal.returns-then-is_some-2
returns-then-is_some-2 c =
    let level1 = level_one c.requires c.if-units-lt2.false c.one_less-found.ensures c.is_some.ensures c.if-is_some.false c.put_back-row.ensures in
    level_stop c.requires 1 level1 refl c.one_less-found-2.ensures c.is_some-2.ensures c.then-is_some-2.either

pub put_back-row-requires-2 : goal.put_back-row-requires-2
put_back-row-requires-2 c =
    let level1 = level_one c.requires c.if-units-lt2.false c.one_less-found.ensures c.is_some.ensures c.if-is_some.false c.put_back-row.ensures in
    level_fits c.requires 1 level1 refl c.if-units-lt3.false refl

pub one_less-found-requires-3 : goal.one_less-found-requires-3
one_less-found-requires-3 c =
    let level1 = level_one c.requires c.if-units-lt2.false c.one_less-found.ensures c.is_some.ensures c.if-is_some.false c.put_back-row.ensures in
    let level2 = level_next c.requires 1 level1 refl c.if-units-lt3.false refl c.one_less-found-2.ensures c.is_some-2.ensures c.if-is_some-2.false c.put_back-row-2.ensures in
    level_asks c.requires 2 level2 refl

pub returns-then-is_some-3 : goal.returns-then-is_some-3
returns-then-is_some-3 c =
    let level1 = level_one c.requires c.if-units-lt2.false c.one_less-found.ensures c.is_some.ensures c.if-is_some.false c.put_back-row.ensures in
    let level2 = level_next c.requires 1 level1 refl c.if-units-lt3.false refl c.one_less-found-2.ensures c.is_some-2.ensures c.if-is_some-2.false c.put_back-row-2.ensures in
    level_stop c.requires 2 level2 refl c.one_less-found-3.ensures c.is_some-3.ensures c.then-is_some-3.either

pub put_back-row-requires-3 : goal.put_back-row-requires-3
put_back-row-requires-3 c =
    let level1 = level_one c.requires c.if-units-lt2.false c.one_less-found.ensures c.is_some.ensures c.if-is_some.false c.put_back-row.ensures in
    let level2 = level_next c.requires 1 level1 refl c.if-units-lt3.false refl c.one_less-found-2.ensures c.is_some-2.ensures c.if-is_some-2.false c.put_back-row-2.ensures in
    level_fits c.requires 2 level2 refl c.if-units-lt4.false refl

pub one_less-requires : goal.one_less-requires
one_less-requires c =
    let level1 = level_one c.requires c.if-units-lt2.false c.one_less-found.ensures c.is_some.ensures c.if-is_some.false c.put_back-row.ensures in
    let level2 = level_next c.requires 1 level1 refl c.if-units-lt3.false refl c.one_less-found-2.ensures c.is_some-2.ensures c.if-is_some-2.false c.put_back-row-2.ensures in
    let level3 = level_next c.requires 2 level2 refl c.if-units-lt4.false refl c.one_less-found-3.ensures c.is_some-3.ensures c.if-is_some-3.false c.put_back-row-3.ensures in
    level_asks c.requires 3 level3 refl

pub returns : goal.returns
returns c =
    let level1 = level_one c.requires c.if-units-lt2.false c.one_less-found.ensures c.is_some.ensures c.if-is_some.false c.put_back-row.ensures in
    let level2 = level_next c.requires 1 level1 refl c.if-units-lt3.false refl c.one_less-found-2.ensures c.is_some-2.ensures c.if-is_some-2.false c.put_back-row-2.ensures in
    let level3 = level_next c.requires 2 level2 refl c.if-units-lt4.false refl c.one_less-found-3.ensures c.is_some-3.ensures c.if-is_some-3.false c.put_back-row-3.ensures in
    level_last c.requires 3 level3 refl c.one_less.ensures (omega (arith, c.requires.0.items))
