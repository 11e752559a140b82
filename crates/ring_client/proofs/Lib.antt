mod InTurn
mod InVain
