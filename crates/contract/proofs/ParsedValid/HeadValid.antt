-- What a head gives its contract, whatever follows it. Assumes nothing.
use mathlib.Core.Path.{◌≡◌}
use mathlib.Core.Bool.{true}
use Rattle.contract.specs.Contract.{Contract}
use Rattle.contract.specs.Field.{Head}
use Rattle.contract.specs.Valid.{amounts_within, within_limit}
use Rattle.contract.specs.declared.Form.{Form}
use Rattle.contract.proofs.ParsedValid.FieldLaws.{HeadWithin}

-- a head with its form written out, by which the definitions compute: headed h.form h is h
abbrev pub headed : Form → Head → Head
headed f h = record { form = f; price = h.price; supplier = h.supplier; buyer = h.buyer; next = h.next }

pub within_limit_lem : (k : Contract) → HeadWithin k.price k.supplier k.buyer → amounts_within k.form k.units k.costs ≡ true
    → amounts_within k.form k.units k.values ≡ true → within_limit k ≡ true
unfolding within_limit
within_limit_lem k h c v = rw (h.price_within, h.supplier_within, h.buyer_within, c, v)
