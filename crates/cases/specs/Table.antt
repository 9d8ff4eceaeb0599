-- The paper's cases A to K, and what they do not touch: more questions to the records of A and F, the cases L, M and N, and the published
-- stock figure.
use Rattle.std.specs.Prelude.{List, [], ◌∷◌, ◌++◌, ℕ, pos, neg_ℤ, take}
use Rattle.contract.specs.Res.{refused, ok}
use Rattle.contract.specs.Contract.{Contract}
use Rattle.contract.specs.declared.Form.TheVariants.{Ladder, UnitPrices, Table}
use Rattle.exchange.specs.Deal.{State}
use Rattle.session.specs.declared.Side.TheVariants.{Delivery, Payment}
use Rattle.cases.specs.Case.{Report, bounds, plan, no_plan, unsafe, session, no_order, Case}

-- a state after a step
abbrev pub at : ℕ → ℕ → State
at place paid = record { place = place; paid = paid }

-- ---- records

-- case A's record, by P and cd: the map, P, cs 1, cd, two units, and their rises (4, 6), (4, 6)
abbrev pub ladder_bytes : ℕ → ℕ → List ℕ
ladder_bytes P cd =
    15 ∷ 0 ∷ P ∷ 0 ∷ 0 ∷ 0 ∷ 1 ∷ 0 ∷ 0 ∷ 0 ∷ cd ∷ 0 ∷ 0 ∷ 0 ∷ 2 ∷ 0
    ∷ 4 ∷ 0 ∷ 0 ∷ 0 ∷ 6 ∷ 0 ∷ 0 ∷ 0 ∷ 4 ∷ 0 ∷ 0 ∷ 0 ∷ 6 ∷ 0 ∷ 0 ∷ 0 ∷ []

-- what it says
abbrev pub ladder_of : ℕ → ℕ → Contract
ladder_of P cd = record { price = P; supplier = 1; buyer = cd; form = Ladder; units = []; costs = 4 ∷ 4 ∷ []; values = 6 ∷ 6 ∷ [] }

-- case E's record: the map, one unit, and its rises (0, 0)
abbrev pub free_bytes : List ℕ
free_bytes = 8 ∷ 0 ∷ 1 ∷ 0 ∷ 0 ∷ 0 ∷ 0 ∷ 0 ∷ 0 ∷ 0 ∷ 0 ∷ 0 ∷ []

-- what it says
abbrev pub free_of : Contract
free_of = record { price = 0; supplier = 0; buyer = 0; form = Ladder; units = []; costs = 0 ∷ []; values = 0 ∷ [] }

-- case F's record: the map, P, cs, cd, two items of 1 and 4 units; then the costs and the values of rows 1 to 9, row 0 being blank
abbrev pub table_bytes : List ℕ
table_bytes =
    39 ∷ 0 ∷ 22 ∷ 0 ∷ 0 ∷ 0 ∷ 2 ∷ 0 ∷ 0 ∷ 0 ∷ 2 ∷ 0 ∷ 0 ∷ 0 ∷ 2 ∷ 1 ∷ 4
    ∷ 254 ∷ 3 ∷ 5 ∷ 0 ∷ 0 ∷ 0 ∷ 9 ∷ 0 ∷ 0 ∷ 0 ∷ 13 ∷ 0 ∷ 0 ∷ 0 ∷ 17 ∷ 0 ∷ 0 ∷ 0 ∷ 10 ∷ 0 ∷ 0 ∷ 0
    ∷ 13 ∷ 0 ∷ 0 ∷ 0 ∷ 16 ∷ 0 ∷ 0 ∷ 0 ∷ 18 ∷ 0 ∷ 0 ∷ 0 ∷ 19 ∷ 0 ∷ 0 ∷ 0
    ∷ 254 ∷ 3 ∷ 3 ∷ 0 ∷ 0 ∷ 0 ∷ 6 ∷ 0 ∷ 0 ∷ 0 ∷ 10 ∷ 0 ∷ 0 ∷ 0 ∷ 14 ∷ 0 ∷ 0 ∷ 0 ∷ 6 ∷ 0 ∷ 0 ∷ 0
    ∷ 10 ∷ 0 ∷ 0 ∷ 0 ∷ 15 ∷ 0 ∷ 0 ∷ 0 ∷ 20 ∷ 0 ∷ 0 ∷ 0 ∷ 26 ∷ 0 ∷ 0 ∷ 0 ∷ []

-- what it says: table 3 of the published method
abbrev pub table_of : Contract
table_of =
    record {
      price = 22;
      supplier = 2;
      buyer = 2;
      form = Table;
      units = 1 ∷ 4 ∷ [];
      costs = 0 ∷ 5 ∷ 9 ∷ 13 ∷ 17 ∷ 10 ∷ 13 ∷ 16 ∷ 18 ∷ 19 ∷ [];
      values = 0 ∷ 3 ∷ 6 ∷ 10 ∷ 14 ∷ 6 ∷ 10 ∷ 15 ∷ 20 ∷ 26 ∷ [];
    }

-- case G's record, by cd: the map, P 8, cs 1, cd, two items; each with one unit, its cost and its value
abbrev pub prices_bytes : ℕ → List ℕ
prices_bytes cd =
    23 ∷ 0 ∷ 8 ∷ 0 ∷ 0 ∷ 0 ∷ 1 ∷ 0 ∷ 0 ∷ 0 ∷ cd ∷ 0 ∷ 0 ∷ 0 ∷ 2
    ∷ 1 ∷ 5 ∷ 0 ∷ 0 ∷ 0 ∷ 3 ∷ 0 ∷ 0 ∷ 0 ∷ 1 ∷ 3 ∷ 0 ∷ 0 ∷ 0 ∷ 6 ∷ 0 ∷ 0 ∷ 0 ∷ []

-- what it says
abbrev pub prices_of : ℕ → Contract
prices_of cd = record { price = 8; supplier = 1; buyer = cd; form = UnitPrices; units = 1 ∷ 1 ∷ []; costs = 5 ∷ 3 ∷ []; values = 3 ∷ 6 ∷ [] }

-- case L's record: the map, P 6, cs 1, cd 1, two items of one unit; the costs of rows 1 and 2, and the value of row 3
abbrev pub blank_bytes : List ℕ
blank_bytes =
    39 ∷ 0 ∷ 6 ∷ 0 ∷ 0 ∷ 0 ∷ 1 ∷ 0 ∷ 0 ∷ 0 ∷ 1 ∷ 0 ∷ 0 ∷ 0 ∷ 2 ∷ 1 ∷ 1
    ∷ 6 ∷ 5 ∷ 0 ∷ 0 ∷ 0 ∷ 3 ∷ 0 ∷ 0 ∷ 0 ∷ 8 ∷ 7 ∷ 0 ∷ 0 ∷ 0 ∷ []

-- what it says: the cost of row 3 is the larger one of rows 1 and 2
abbrev pub blank_of : Contract
blank_of =
    record {
      price = 6;
      supplier = 1;
      buyer = 1;
      form = Table;
      units = 1 ∷ 1 ∷ [];
      costs = 0 ∷ 5 ∷ 3 ∷ 5 ∷ [];
      values = 0 ∷ 0 ∷ 0 ∷ 7 ∷ [];
    }

-- case M's record: the map, P 13, cs 1, cd 1, four items; each with its units, cost and value
abbrev pub four_bytes : List ℕ
four_bytes =
    23 ∷ 0 ∷ 13 ∷ 0 ∷ 0 ∷ 0 ∷ 1 ∷ 0 ∷ 0 ∷ 0 ∷ 1 ∷ 0 ∷ 0 ∷ 0 ∷ 4
    ∷ 3 ∷ 2 ∷ 0 ∷ 0 ∷ 0 ∷ 1 ∷ 0 ∷ 0 ∷ 0 ∷ 1 ∷ 3 ∷ 0 ∷ 0 ∷ 0 ∷ 1 ∷ 0 ∷ 0 ∷ 0
    ∷ 3 ∷ 1 ∷ 0 ∷ 0 ∷ 0 ∷ 2 ∷ 0 ∷ 0 ∷ 0 ∷ 1 ∷ 1 ∷ 0 ∷ 0 ∷ 0 ∷ 3 ∷ 0 ∷ 0 ∷ 0 ∷ []

-- what it says. By whole segments item 1 would come before item 2, and item 3 after item 4
abbrev pub four_of : Contract
four_of =
    record {
      price = 13;
      supplier = 1;
      buyer = 1;
      form = UnitPrices;
      units = 3 ∷ 1 ∷ 3 ∷ 1 ∷ [];
      costs = 2 ∷ 3 ∷ 1 ∷ 1 ∷ [];
      values = 1 ∷ 1 ∷ 2 ∷ 3 ∷ [];
    }

-- case N's record, by P: the map, P, cs 1, cd 2, one item of two units; the costs and the values of rows 0 to 2
abbrev pub first_row_bytes : ℕ → List ℕ
first_row_bytes P =
    39 ∷ 0 ∷ P ∷ 0 ∷ 0 ∷ 0 ∷ 1 ∷ 0 ∷ 0 ∷ 0 ∷ 2 ∷ 0 ∷ 0 ∷ 0 ∷ 1 ∷ 2
    ∷ 7 ∷ 3 ∷ 0 ∷ 0 ∷ 0 ∷ 5 ∷ 0 ∷ 0 ∷ 0 ∷ 8 ∷ 0 ∷ 0 ∷ 0 ∷ 7 ∷ 2 ∷ 0 ∷ 0 ∷ 0 ∷ 9 ∷ 0 ∷ 0 ∷ 0 ∷ 12 ∷ 0 ∷ 0 ∷ 0 ∷ []

-- what it says: row 0 has a cost and a value, and P is safe at the start from 8 − 3 to 12 − 2
abbrev pub first_row_of : ℕ → Contract
first_row_of P = record { price = P; supplier = 1; buyer = 2; form = Table; units = 2 ∷ []; costs = 3 ∷ 5 ∷ 8 ∷ []; values = 2 ∷ 9 ∷ 12 ∷ [] }

-- the record of the published stock figure, amounts in cents: the map, P, cs, cd, five items; each with its units, cost and value
abbrev pub stock_bytes : List ℕ
stock_bytes =
    23 ∷ 0 ∷ 92 ∷ 119 ∷ 39 ∷ 0 ∷ 160 ∷ 134 ∷ 1 ∷ 0 ∷ 240 ∷ 73 ∷ 2 ∷ 0 ∷ 5
    ∷ 60 ∷ 121 ∷ 35 ∷ 0 ∷ 0 ∷ 72 ∷ 38 ∷ 0 ∷ 0 ∷ 30 ∷ 23 ∷ 40 ∷ 0 ∷ 0 ∷ 238 ∷ 42 ∷ 0 ∷ 0
    ∷ 10 ∷ 85 ∷ 16 ∷ 0 ∷ 0 ∷ 154 ∷ 16 ∷ 0 ∷ 0 ∷ 100 ∷ 249 ∷ 46 ∷ 0 ∷ 0 ∷ 181 ∷ 49 ∷ 0 ∷ 0
    ∷ 40 ∷ 62 ∷ 33 ∷ 0 ∷ 0 ∷ 140 ∷ 34 ∷ 0 ∷ 0 ∷ []

-- what it says: MSFT, HWP, DELL, EBAY, PG. The figure ends with HWP, whose unit has the greatest value less cost; by whole segments, as the
-- published algorithm compares, EBAY would be last
abbrev pub stock_of : Contract
stock_of =
    record {
      price = 2_586_460;
      supplier = 100_000;
      buyer = 150_000;
      form = UnitPrices;
      units = 60 ∷ 30 ∷ 10 ∷ 100 ∷ 40 ∷ [];
      costs = 9_081 ∷ 10_263 ∷ 4_181 ∷ 12_025 ∷ 8_510 ∷ [];
      values = 9_800 ∷ 10_990 ∷ 4_250 ∷ 12_725 ∷ 8_844 ∷ [];
    }

-- ---- plans and reports

-- case A's plan
abbrev pub plan_a : List State
plan_a = at 0 3 ∷ at 1 3 ∷ at 1 7 ∷ at 2 7 ∷ at 2 10 ∷ []

-- case C's plan, from when the start was judged as every other state
abbrev pub plan_c : List State
plan_c = at 1 0 ∷ at 1 4 ∷ at 2 4 ∷ at 2 7 ∷ []

-- case I: payment 3 is taken, delivery 2 gets 10, delivery 1 is taken
abbrev pub reports_i : List Report
reports_i =
    record { side = Payment; number = 3; reply = ok tt }
    ∷ record { side = Delivery; number = 2; reply = refused 10 }
    ∷ record { side = Delivery; number = 1; reply = ok tt }
    ∷ []

-- case F's plan
abbrev pub plan_f : List State
plan_f = at 1 5 ∷ at 1 10 ∷ at 4 10 ∷ at 4 22 ∷ at 9 22 ∷ []

-- case M's plan
abbrev pub plan_m : List State
plan_m = at 1 1 ∷ at 2 4 ∷ at 4 6 ∷ at 5 10 ∷ at 7 11 ∷ at 7 13 ∷ at 8 13 ∷ []

-- the stock figure's plan
abbrev pub plan_stock : List State
plan_stock =
    at 22 249_000 ∷ at 50 392_930 ∷ at 61 631_210 ∷ at 80 763_485 ∷ at 90 991_960 ∷ at 108 1_112_210 ∷ at 118 1_328_660
    ∷ at 135 1_448_910 ∷ at 144 1_653_335 ∷ at 163 1_761_560 ∷ at 174 1_951_763 ∷ at 194 2_051_654 ∷ at 204 2_233_274
    ∷ at 221 2_324_084 ∷ at 229 2_491_463 ∷ at 240 2_573_567 ∷ at 240 2_586_460 ∷ []

-- the plan that the published method prints for its table 3
abbrev pub printed_plan : List State
printed_plan = at 2 5 ∷ at 3 14 ∷ at 4 18 ∷ at 4 22 ∷ at 9 22 ∷ []

-- along it payment 5 is taken, but not twice; delivery 2 is taken, and both moves being made the first step is passed
abbrev pub reports_f : List Report
reports_f =
    record { side = Payment; number = 5; reply = ok tt }
    ∷ record { side = Payment; number = 5; reply = refused 10 }
    ∷ record { side = Delivery; number = 2; reply = ok tt }
    ∷ record { side = Delivery; number = 3; reply = ok tt }
    ∷ []

-- ---- the table

-- case A: its bounds and its plan; case I, a session on that plan; case J, a brought plan that is not safe; and one that pays less in a step
-- than before it
abbrev pub case_a : Case
case_a =
    record {
      bytes = ladder_bytes 10 3;
      says = ok (ladder_of 10 3);
      questions =
          bounds 0 (pos 0) (pos 3)
          ∷ bounds 1 (pos 1) (pos 7)
          ∷ bounds 2 (pos 7) (pos 10)
          ∷ plan no_order plan_a
          ∷ session plan_a reports_i
          ∷ unsafe (at 0 3 ∷ at 2 3 ∷ at 2 10 ∷ []) 12
          ∷ unsafe (at 0 3 ∷ at 0 2 ∷ at 1 3 ∷ at 1 7 ∷ at 2 7 ∷ at 2 10 ∷ []) 12
          ∷ [];
    }

-- the cases; in K planning repeats the refusal of the record
abbrev pub cases : List Case
cases =
    case_a
    -- B, A with cd 2
    ∷ record { bytes = ladder_bytes 10 2; says = ok (ladder_of 10 2); questions = no_plan 9 ∷ [] }
    -- C, A with P 7, one below vs(L); a plan whose other states are safe is not accepted, also if its first step stays at (0, 0)
    ∷ record {
      bytes = ladder_bytes 7 3;
      says = ok (ladder_of 7 3);
      questions = no_plan 9 ∷ unsafe plan_c 12 ∷ unsafe (at 0 0 ∷ plan_c) 12 ∷ [];
    }
    -- D, A with P 6; the upper bound of the start is negative
    ∷ record { bytes = ladder_bytes 6 3; says = ok (ladder_of 6 3); questions = bounds 0 (pos 0) (neg_ℤ (pos 1)) ∷ no_plan 9 ∷ [] }
    -- E
    ∷ record { bytes = free_bytes; says = ok free_of; questions = plan no_order (at 1 0 ∷ []) ∷ [] }
    -- F; of the last two plans one would take back the units of row 2, all else in it being safe, and one names a row that is not there
    ∷ record {
      bytes = table_bytes;
      says = ok table_of;
      questions =
          plan no_order plan_f
          ∷ session printed_plan reports_f
          ∷ unsafe (at 2 5 ∷ at 5 14 ∷ at 7 15 ∷ at 8 21 ∷ at 9 22 ∷ []) 12
          ∷ unsafe (at 10 0 ∷ printed_plan) 12
          ∷ [];
    }
    -- G
    ∷ record {
      bytes = prices_bytes 2;
      says = ok (prices_of 2);
      questions = plan (1 ∷ 2 ∷ 0 ∷ 0 ∷ 0 ∷ 0 ∷ 0 ∷ 0 ∷ []) (at 1 1 ∷ at 1 6 ∷ at 2 6 ∷ at 2 8 ∷ []) ∷ [];
    }
    -- H, G with cd 1
    ∷ record { bytes = prices_bytes 1; says = ok (prices_of 1); questions = no_plan 9 ∷ [] }
    -- K, A's record cut to 31 bytes, and with one byte more
    ∷ record { bytes = take 31 (ladder_bytes 10 3); says = refused 1; questions = no_plan 1 ∷ [] }
    ∷ record { bytes = ladder_bytes 10 3 ++ (0 ∷ []); says = refused 7; questions = no_plan 7 ∷ [] }
    -- L
    ∷ record { bytes = blank_bytes; says = ok blank_of; questions = bounds 0 (pos 0) (pos 2) ∷ plan no_order (at 1 2 ∷ at 1 6 ∷ at 3 6 ∷ []) ∷ [] }
    -- M
    ∷ record { bytes = four_bytes; says = ok four_of; questions = plan (2 ∷ 1 ∷ 3 ∷ 4 ∷ 0 ∷ 0 ∷ 0 ∷ 0 ∷ []) plan_m ∷ [] }
    -- N, at the least and the most price of a safe start, and one coin outside
    ∷ record { bytes = first_row_bytes 5; says = ok (first_row_of 5); questions = plan no_order (at 1 1 ∷ at 1 3 ∷ at 2 3 ∷ at 2 5 ∷ []) ∷ [] }
    ∷ record { bytes = first_row_bytes 4; says = ok (first_row_of 4); questions = no_plan 9 ∷ [] }
    ∷ record { bytes = first_row_bytes 10; says = ok (first_row_of 10); questions = plan no_order (at 0 6 ∷ at 1 6 ∷ at 1 8 ∷ at 2 8 ∷ at 2 10 ∷ []) ∷ [] }
    ∷ record { bytes = first_row_bytes 11; says = ok (first_row_of 11); questions = no_plan 9 ∷ [] }
    -- the stock figure
    ∷ record { bytes = stock_bytes; says = ok stock_of; questions = plan (3 ∷ 5 ∷ 4 ∷ 1 ∷ 2 ∷ 0 ∷ 0 ∷ 0 ∷ []) plan_stock ∷ [] }
    ∷ []
