mod Commutes
